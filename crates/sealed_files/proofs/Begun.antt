-- Begun: what bytes that begin with sealed frames are as a file, whatever follows.
use Rattle.std.proofs.Common.{◌≡◌, ◌<◌, ◌≤◌, ◌+◌, ◌-◌, ℕ, zero, suc, Bool, true, false, List, [], ◌∷◌, ◌++◌, None, Some, length, take, drop, refl, sym, ap, ◌∙◌, subst, arith}
use Rattle.std.specs.Prelude.{Option, is_some, slice_index, if◌then◌else◌, IsTrue}
use Rattle.std.proofs.lemmas.List.{length-drop}
use Rattle.definitions.specs.declared.frames.TurnFrame.{TurnFrame}
use Rattle.definitions.specs.Lists.{EachIs, is_empty}
use Rattle.definitions.specs.World.{Game}
use Rattle.commitment.specs.Spelling.{turn_frame_of}
use Rattle.plain_lemmas.proofs.Options.{some_when}
use Rattle.seal_keys.specs.Seals.{seal_len}
use Rattle.sealed_evidence.specs.Judging.{is_sealed}
use Rattle.sealed_files.specs.SealedFrames.{SealedFrame, bad_from, behind_sealed, frame_ahead, frame_len, seal_ahead, sealed_ahead, sealed_from, sealed_then, where_sealed}
use Rattle.sealed_files.specs.Beginnings.{Begins}
use Rattle.sealed_files.proofs.Told.{bad_empty, bad_here, bad_on, sealed_within}

-- ---- lists that go on

take_on : (n : ℕ) (xs more : List ℕ) → n ≤ length xs → take n (xs ++ more) ≡ take n xs
take_on zero xs more le = refl
take_on (suc n) [] more le = absurd (omega (arith, le))
take_on (suc n) (x ∷ xs) more le = ap (λ (ys : List ℕ). x ∷ ys) (take_on n xs more (omega (arith, le)))

drop_on : (n : ℕ) (xs more : List ℕ) → n ≤ length xs → drop n (xs ++ more) ≡ drop n xs ++ more
drop_on zero xs more le = refl
drop_on (suc n) [] more le = absurd (omega (arith, le))
drop_on (suc n) (x ∷ xs) more le = drop_on n xs more (omega (arith, le))

third_on : (xs more : List ℕ) → 3 ≤ length xs → slice_index (xs ++ more) 2 ≡ slice_index xs 2
third_on [] more le = absurd (omega (arith, le))
third_on (a ∷ []) more le = absurd (omega (arith, le))
third_on (a ∷ b ∷ []) more le = absurd (omega (arith, le))
third_on (a ∷ b ∷ c ∷ xs) more le = refl

empty_when : (xs : List ℕ) → length xs ≤ 0 → is_empty xs ≡ true
empty_when [] le = refl
empty_when (x ∷ xs) le = absurd (omega (arith, le))

some_bytes : (xs : List ℕ) → is_empty xs ≡ false → 0 < length xs
some_bytes [] e = absurd (let no : true ≡ false = e in cc)
some_bytes (x ∷ xs) e = omega arith

-- ---- what stands at the front doesn't change by what follows

module _ (game : Game) (roots : List (List ℕ)) (bytes more : List ℕ) (whole : frame_len bytes + seal_len game ≤ length bytes) where
  len_on : frame_len (bytes ++ more) ≡ frame_len bytes
  len_on = ap (λ (n : ℕ). n + 3) (third_on bytes more (omega (arith, whole)))

  pub seal_on : seal_ahead game (bytes ++ more) ≡ seal_ahead game bytes
  seal_on =
      ap (λ (n : ℕ). take (seal_len game) (drop n (bytes ++ more))) len_on
      ∙ ap (take (seal_len game)) (drop_on (frame_len bytes) bytes more (omega (arith, whole)))
      ∙ take_on (seal_len game) (drop (frame_len bytes) bytes) more (let left = length-drop (frame_len bytes) bytes in omega (arith, whole, left))

  frame_on : frame_ahead (bytes ++ more) ≡ frame_ahead bytes
  unfolding frame_ahead
  frame_on =
      ap (λ (n : ℕ). turn_frame_of (take n (bytes ++ more))) len_on
      ∙ ap turn_frame_of (take_on (frame_len bytes) bytes more (omega (arith, whole)))

  where_on : (o : Option TurnFrame) → where_sealed game roots (bytes ++ more) o ≡ where_sealed game roots bytes o
  where_on None = refl
  where_on (Some f) = ap (λ (s : List ℕ). if is_sealed game roots f s then Some f else None) seal_on

  pub sealed_on : sealed_ahead game roots (bytes ++ more) ≡ sealed_ahead game roots bytes
  unfolding sealed_ahead
  sealed_on = where_on (frame_ahead (bytes ++ more)) ∙ ap (where_sealed game roots bytes) frame_on

  pub behind_on : behind_sealed game (bytes ++ more) ≡ behind_sealed game bytes ++ more
  behind_on =
      ap (λ (n : ℕ). drop (n + seal_len game) (bytes ++ more)) len_on
      ∙ drop_on (frame_len bytes + seal_len game) bytes more whole

  pub whole_on : frame_len (bytes ++ more) + seal_len game ≤ length bytes
  whole_on = let len = len_on in omega (arith, whole, len)

-- ---- as many steps as there are bytes are enough

bad_enough : (game : Game) (roots : List (List ℕ)) (n m at : ℕ) (bytes : List ℕ) → length bytes ≤ n → length bytes ≤ m → bad_from game roots n at bytes ≡ bad_from game roots m at bytes
bad_enough game roots zero m at bytes few more =
    bad_empty game roots zero at bytes (empty_when bytes few) ∙ sym (bad_empty game roots m at bytes (empty_when bytes few))
bad_enough game roots (suc n) m at bytes few more =
    go (is_empty bytes) (is_some (sealed_ahead game roots bytes)) refl refl (λ next rest short shorter. bad_enough game roots n (m - 1) next rest short shorter)
  where
    go : (b c : Bool) → is_empty bytes ≡ b → is_some (sealed_ahead game roots bytes) ≡ c →
        ((next : ℕ) (rest : List ℕ) → length rest ≤ n → length rest ≤ m - 1 → bad_from game roots n next rest ≡ bad_from game roots (m - 1) next rest) →
        bad_from game roots (suc n) at bytes ≡ bad_from game roots m at bytes
    go true c e r ih = bad_empty game roots (suc n) at bytes e ∙ sym (bad_empty game roots m at bytes e)
    go false false e r ih =
        let some = some_bytes bytes e in
        bad_here game roots (suc n) at bytes (omega arith) e r ∙ sym (bad_here game roots m at bytes (omega (arith, some, more)) e r)
    go false true e r ih =
        let some = some_bytes bytes e in
        let one : suc n - 1 ≡ n = omega arith in
        let size : ℕ = frame_len bytes + seal_len game in
        let left = length-drop size bytes in
        bad_on game roots (suc n) at bytes (omega arith) e r
        ∙ ap (λ (k : ℕ). bad_from game roots k (at + size) (drop size bytes)) one
        ∙ ih (at + size) (drop size bytes) (omega (arith, left, few, some)) (omega (arith, left, more, some))
        ∙ sym (bad_on game roots m at bytes (omega (arith, some, more)) e r)

sealed_none : (game : Game) (roots : List (List ℕ)) (n : ℕ) (bytes : List ℕ) → is_some (sealed_ahead game roots bytes) ≡ false → sealed_from game roots n bytes ≡ []
unfolding sealed_from
sealed_none game roots zero bytes r = refl
sealed_none game roots (suc n) bytes r = go (sealed_ahead game roots bytes) r
  where
    go : (o : Option TurnFrame) → is_some o ≡ false → sealed_then game bytes o (sealed_from game roots n (behind_sealed game bytes)) ≡ []
    go None e = refl
    go (Some f) e = absurd (let no : true ≡ false = e in cc)

sealed_more : (game : Game) (roots : List (List ℕ)) (n : ℕ) (bytes : List ℕ) (f : TurnFrame) → 0 < n → sealed_ahead game roots bytes ≡ Some f →
    sealed_from game roots n bytes ≡ record { frame = f; seal = seal_ahead game bytes } ∷ sealed_from game roots (n - 1) (behind_sealed game bytes)
unfolding sealed_from
sealed_more game roots zero bytes f some r = absurd (omega (arith, some))
sealed_more game roots (suc n) bytes f some r =
    let same : suc n - 1 ≡ n = omega arith in
    ap (λ (o : Option TurnFrame). sealed_then game bytes o (sealed_from game roots n (behind_sealed game bytes))) r
    ∙ ap (λ (k : ℕ). record { frame = f; seal = seal_ahead game bytes } ∷ sealed_from game roots k (behind_sealed game bytes)) (sym same)

none_of_few : (game : Game) (roots : List (List ℕ)) (bytes : List ℕ) → length bytes ≤ 0 → is_some (sealed_ahead game roots bytes) ≡ false
none_of_few game roots bytes few = go (is_some (sealed_ahead game roots bytes)) refl
  where
    go : (b : Bool) → is_some (sealed_ahead game roots bytes) ≡ b → is_some (sealed_ahead game roots bytes) ≡ false
    go false e = e
    go true e = absurd (let within = sealed_within game roots bytes e in omega (arith, within, few))

sealed_enough : (game : Game) (roots : List (List ℕ)) (n m : ℕ) (bytes : List ℕ) → length bytes ≤ n → length bytes ≤ m → sealed_from game roots n bytes ≡ sealed_from game roots m bytes
sealed_enough game roots zero m bytes few more =
    let none = none_of_few game roots bytes few in
    sealed_none game roots zero bytes none ∙ sym (sealed_none game roots m bytes none)
sealed_enough game roots (suc n) m bytes few more = go (sealed_ahead game roots bytes) refl (λ rest short shorter. sealed_enough game roots n (m - 1) rest short shorter)
  where
    go : (o : Option TurnFrame) → sealed_ahead game roots bytes ≡ o →
        ((rest : List ℕ) → length rest ≤ n → length rest ≤ m - 1 → sealed_from game roots n rest ≡ sealed_from game roots (m - 1) rest) →
        sealed_from game roots (suc n) bytes ≡ sealed_from game roots m bytes
    go None e ih =
        let none = ap is_some e in
        sealed_none game roots (suc n) bytes none ∙ sym (sealed_none game roots m bytes none)
    go (Some f) e ih =
        let within = sealed_within game roots bytes (ap is_some e) in
        let one : suc n - 1 ≡ n = omega arith in
        let size : ℕ = frame_len bytes + seal_len game in
        let left = length-drop size bytes in
        let head : SealedFrame = record { frame = f; seal = seal_ahead game bytes } in
        sealed_more game roots (suc n) bytes f (omega arith) e
        ∙ ap (λ (k : ℕ). head ∷ sealed_from game roots k (behind_sealed game bytes)) one
        ∙ ap (λ (ss : List SealedFrame). head ∷ ss) (ih (drop size bytes) (omega (arith, left, few, within)) (omega (arith, left, more, within)))
        ∙ sym (sealed_more game roots m bytes f (omega (arith, within, more)) e)

-- ---- bytes that begin with sealed frames

-- a sealed frame has a byte at least
pub begins_short : (game : Game) (roots : List (List ℕ)) (bytes : List ℕ) (ss : List SealedFrame) (rest : List ℕ) → Begins game roots bytes ss rest → length rest + length ss ≤ length bytes
begins_short game roots bytes [] rest w = let same = ap (λ (xs : List ℕ). length xs) w in omega (arith, same)
begins_short game roots bytes (s ∷ ss) rest w =
    let within = sealed_within game roots bytes (ap is_some w.0) in
    let left = length-drop (frame_len bytes + seal_len game) bytes in
    let ih = begins_short game roots (behind_sealed game bytes) ss rest w.2 in
    omega (arith, within, left, ih)

pub begins_sealed : (game : Game) (roots : List (List ℕ)) (bytes : List ℕ) (ss : List SealedFrame) (rest : List ℕ) (n m : ℕ) → Begins game roots bytes ss rest → length bytes ≤ n → length rest ≤ m →
    sealed_from game roots n bytes ≡ ss ++ sealed_from game roots m rest
begins_sealed game roots bytes [] rest n m w few more =
    let same = ap (λ (xs : List ℕ). length xs) w in
    sealed_enough game roots n m bytes few (omega (arith, same, more)) ∙ ap (sealed_from game roots m) w
begins_sealed game roots bytes (s ∷ ss) rest n m w few more =
    let within = sealed_within game roots bytes (ap is_some w.0) in
    let left = length-drop (frame_len bytes + seal_len game) bytes in
    sealed_more game roots n bytes s.frame (omega (arith, within, few)) w.0
    ∙ ap (λ (seal : List ℕ). record { frame = s.frame; seal = seal } ∷ sealed_from game roots (n - 1) (behind_sealed game bytes)) w.1
    ∙ ap (λ (os : List SealedFrame). s ∷ os) (begins_sealed game roots (behind_sealed game bytes) ss rest (n - 1) m w.2 (omega (arith, within, left, few)) more)

pub begins_bad : (game : Game) (roots : List (List ℕ)) (bytes : List ℕ) (ss : List SealedFrame) (rest : List ℕ) (n m at next : ℕ) → Begins game roots bytes ss rest → length bytes ≤ n → length rest ≤ m →
    next + length rest ≡ at + length bytes → bad_from game roots n at bytes ≡ bad_from game roots m next rest
begins_bad game roots bytes [] rest n m at next w few more place =
    let same = ap (λ (xs : List ℕ). length xs) w in
    let here : at ≡ next = omega (arith, same, place) in
    bad_enough game roots n m at bytes few (omega (arith, same, more)) ∙ ap (λ (k : ℕ). bad_from game roots m k bytes) here ∙ ap (bad_from game roots m next) w
begins_bad game roots bytes (s ∷ ss) rest n m at next w few more place =
    let within = sealed_within game roots bytes (ap is_some w.0) in
    let size : ℕ = frame_len bytes + seal_len game in
    let left = length-drop size bytes in
    bad_on game roots n at bytes (omega (arith, within, few)) (full bytes (omega (arith, within))) (ap is_some w.0)
    ∙ begins_bad game roots (behind_sealed game bytes) ss rest (n - 1) m (at + size) next w.2 (omega (arith, within, left, few)) more (omega (arith, within, left, place))
  where
    full : (xs : List ℕ) → 0 < length xs → is_empty xs ≡ false
    full [] some = absurd (omega (arith, some))
    full (x ∷ xs) some = refl

-- more of the file comes
pub begins_more : (game : Game) (roots : List (List ℕ)) (bytes : List ℕ) (ss : List SealedFrame) (rest more : List ℕ) → Begins game roots bytes ss rest → Begins game roots (bytes ++ more) ss (rest ++ more)
begins_more game roots bytes [] rest more w = ap (λ (xs : List ℕ). xs ++ more) w
begins_more game roots bytes (s ∷ ss) rest more w =
    let within = sealed_within game roots bytes (ap is_some w.0) in (
      sealed_on game roots bytes more within ∙ w.0,
      seal_on game roots bytes more within ∙ w.1,
      subst (λ (xs : List ℕ). Begins game roots xs ss (rest ++ more)) (sym (behind_on game roots bytes more within)) (begins_more game roots (behind_sealed game bytes) ss rest more w.2),
    )

-- the rest begins with sealed frames, too
pub begins_on : (game : Game) (roots : List (List ℕ)) (bytes : List ℕ) (ss : List SealedFrame) (rest : List ℕ) (ts : List SealedFrame) (end : List ℕ) → Begins game roots bytes ss rest → Begins game roots rest ts end →
    Begins game roots bytes (ss ++ ts) end
begins_on game roots bytes [] rest ts end w u = subst (λ (xs : List ℕ). Begins game roots xs ts end) (sym w) u
begins_on game roots bytes (s ∷ ss) rest ts end w u = (w.0, w.1, begins_on game roots (behind_sealed game bytes) ss rest ts end w.2 u)

-- no sealed frame stands there, whatever follows
pub stuck_more : (game : Game) (roots : List (List ℕ)) (rest more : List ℕ) → frame_len rest + seal_len game ≤ length rest → is_some (sealed_ahead game roots rest) ≡ false →
    is_some (sealed_ahead game roots (rest ++ more)) ≡ false
stuck_more game roots rest more whole none = ap is_some (sealed_on game roots rest more whole) ∙ none

-- ---- each seal is valid

-- the seal is valid for the frame
abbrev pub HasValidSeal : Game → List (List ℕ) → SealedFrame → Type 0
HasValidSeal game roots s = IsTrue (is_sealed game roots s.frame s.seal)

pub sealed_there : (game : Game) (roots : List (List ℕ)) (bytes : List ℕ) (f : TurnFrame) → sealed_ahead game roots bytes ≡ Some f → is_sealed game roots f (seal_ahead game bytes) ≡ true
unfolding sealed_ahead
sealed_there game roots bytes f e = go (frame_ahead bytes) e
  where
    go : (o : Option TurnFrame) → where_sealed game roots bytes o ≡ Some f → is_sealed game roots f (seal_ahead game bytes) ≡ true
    go None e = absurd (let no : None ≡ Some f = e in cc)
    go (Some g) e =
        let there = some_when (is_sealed game roots g (seal_ahead game bytes)) g f e in
        ap (λ (h : TurnFrame). is_sealed game roots h (seal_ahead game bytes)) (sym there.1) ∙ there.0

pub all_valid : (game : Game) (roots : List (List ℕ)) (n : ℕ) (bytes : List ℕ) → EachIs (HasValidSeal game roots) (sealed_from game roots n bytes)
unfolding sealed_from
all_valid game roots zero bytes = tt
all_valid game roots (suc n) bytes = go (sealed_ahead game roots bytes) refl (all_valid game roots n (behind_sealed game bytes))
  where
    go : (o : Option TurnFrame) → sealed_ahead game roots bytes ≡ o → EachIs (HasValidSeal game roots) (sealed_from game roots n (behind_sealed game bytes)) →
        EachIs (HasValidSeal game roots) (sealed_then game bytes o (sealed_from game roots n (behind_sealed game bytes)))
    go None e all = tt
    go (Some f) e all = (sealed_there game roots bytes f e, all)
