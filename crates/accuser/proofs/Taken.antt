-- Taken: sealed frames are taken one behind the other.
use Rattle.std.proofs.Common.{◌≡◌, ◌<◌, ◌≤◌, ◌+◌, ◌-◌, ℕ, Bool, true, false, List, [], ◌∷◌, ◌++◌, None, Some, length, drop, refl, sym, ap, ◌∙◌, subst, arith, append-nil, length-append}
use Rattle.std.specs.Prelude.{Result, Ok, Err, OnOk, map, is_some, not}
use Rattle.std.specs.declared.alloc.AllocError.{AllocError}
use Rattle.std.proofs.lemmas.Bool.{leb-true}
use Rattle.std.proofs.lemmas.List.{drop-drop, length-drop, map-append}
use Rattle.definitions.specs.declared.frames.TurnFrame.{TurnFrame}
use Rattle.definitions.specs.declared.logs.Entry.TheVariants.{Got}
use Rattle.definitions.specs.Logs.{player_of}
use Rattle.definitions.specs.declared.limits.TheConstants.{LONGEST_LOG}
use Rattle.definitions.specs.Lists.{is_empty}
use Rattle.definitions.specs.World.{Game}
use Rattle.auditor.specs.Audits.{AuditState, count_in, owner_in}
use Rattle.auditor.specs.Taking.{LeavesOthers, Takes}
use Rattle.auditor.proofs.Fed.{takes_more}
use Rattle.seal_keys.specs.Seals.{seal_len}
use Rattle.sealed_files.specs.SealedFrames.{SealedFrame, bad_from, behind_sealed, frame_len, seal_ahead, sealed_ahead, sealed_from}
use Rattle.sealed_files.specs.Beginnings.{Begins}
use Rattle.sealed_files.proofs.Begun.{begins_bad, begins_on, begins_sealed, begins_short}
use Rattle.sealed_files.proofs.Told.{bad_empty, bad_here, sealed_within}
use Rattle.accuser.specs.declared.taker.Taker.{Taker}
use Rattle.accuser.specs.declared.taker.Next.TheVariants as next
use Rattle.accuser.specs.declared.taker.FrontFault.{FrontFault}
use Rattle.accuser.specs.declared.taker.FrontFault.TheVariants as front
use Rattle.accuser.specs.Accused.{as_entry}
use Rattle.accuser.specs.SealBooks.{KeepsSeals}
use Rattle.accuser.specs.Taking.{IsBytesFault, IsFrontFault, IsNext, IsOf, IsStuck, IsTakenTo, Leaves, TakesBytes, TakesFront, TakesSealed, bad_in, is_asked}
use Rattle.accuser.proofs.Noted.{both_kept, none_kept, with_seal}

-- ---- sealed frames

pub nothing_taken : (t : Taker) (file : ℕ) → TakesSealed t t file []
nothing_taken t file = record { taken = λ game logs w. w; kept = none_kept t.seals; counted = omega arith }

pub both_taken : (a b c : Taker) (file : ℕ) (ss ts : List SealedFrame) → TakesSealed a b file ss → TakesSealed b c file ts → TakesSealed a c file (ss ++ ts)
both_taken a b c file ss ts one two = record {
  taken = subst (Takes a.auditor c.auditor file) (sym (map-append as_entry ss ts)) (takes_more a.auditor b.auditor c.auditor file (map as_entry ss) (map as_entry ts) one.taken two.taken);
  kept = both_kept a.seals b.seals c.seals ss ts one.kept two.kept;
  counted = let x = one.counted in let y = two.counted in let z = length-append ss ts in omega (arith, x, y, z);
}

pub leaves_on : (game : Game) (a b c : Taker) (file : ℕ) → Leaves game a b file → Leaves game b c file → Leaves game a c file
leaves_on game a b c file one two = record {
  of_session = two.of_session;
  others = λ i not. let x = one.others i not in let y = two.others i not in (y.0 ∙ x.0, y.1 ∙ x.1);
  owner = two.owner ∙ one.owner;
}

pub leaves_all : (game : Game) (t : Taker) (file : ℕ) → IsOf game t → Leaves game t t file
leaves_all game t file is = record { of_session = is; others = λ i not. (refl, refl); owner = refl }

-- the seal that is being read isn't among what was taken
pub with_room : (game : Game) (t t' : Taker) (file : ℕ) → t'.auditor ≡ t.auditor → t'.seals ≡ t.seals → IsOf game t' → Leaves game t t' file
with_room game t t' file audit seals is = record {
  of_session = is;
  others = λ i not. (ap (λ (a : AuditState). count_in a i) audit, ap (λ (a : AuditState). owner_in a i) audit);
  owner = ap (λ (a : AuditState). owner_in a file) audit;
}

-- ---- the front of bytes

module _ (game : Game) (roots : List (List ℕ)) (file : ℕ) (bytes : List ℕ) where
  pub front_none : (t : Taker) → TakesFront game roots t t file bytes bytes
  front_none t = record { frames = []; begins = refl; taken = nothing_taken t file }

  -- one sealed frame more
  pub front_more : (a b c : Taker) (rest left : List ℕ) (f : TurnFrame) (seal : List ℕ) → TakesFront game roots a b file bytes rest → sealed_ahead game roots rest ≡ Some f → seal ≡ seal_ahead game rest →
      behind_sealed game rest ≡ left → TakesSealed b c file (with_seal f seal ∷ []) → TakesFront game roots a c file bytes left
  front_more a b c rest left f seal w there its after takes = record {
    frames = w.frames ++ with_seal f seal ∷ [];
    begins = begins_on game roots bytes w.frames rest (with_seal f seal ∷ []) left w.begins (there, sym its, after);
    taken = both_taken a b c file w.frames (with_seal f seal ∷ []) w.taken takes;
  }

-- ---- the last bytes of a file

none_sealed : (game : Game) (roots : List (List ℕ)) → sealed_from game roots 0 [] ≡ []
unfolding sealed_from
none_sealed game roots = refl

module _ (game : Game) (roots : List (List ℕ)) (file : ℕ) (bytes : List ℕ) where
  -- nothing is left
  pub taken_whole : (a b : Taker) (rest : List ℕ) → TakesFront game roots a b file bytes rest → rest ≡ [] → TakesBytes game roots a b file bytes
  taken_whole a b rest w none =
      let begins : Begins game roots bytes w.frames [] = subst (Begins game roots bytes w.frames) none w.begins in
      let long = begins_short game roots bytes w.frames [] begins in
      record {
        sound = begins_bad game roots bytes w.frames [] (length bytes) 0 0 (length bytes) begins (omega arith) (omega arith) (omega arith) ∙ none_bad (length bytes);
        taken = subst (TakesSealed a b file) (sym (begins_sealed game roots bytes w.frames [] (length bytes) 0 begins (omega arith) (omega arith) ∙ ap (λ (ss : List SealedFrame). w.frames ++ ss) (none_sealed game roots) ∙ append-nil w.frames)) w.taken;
      }
    where
      none_bad : (at : ℕ) → bad_from game roots 0 at [] ≡ None
      none_bad at = bad_empty game roots 0 at [] refl

  -- a sealed frame is looked for and none stands there
  pub stuck_at : (rest : List ℕ) (at : ℕ) (ss : List SealedFrame) → Begins game roots bytes ss rest → is_empty rest ≡ false → is_some (sealed_ahead game roots rest) ≡ false → at + length rest ≡ length bytes →
      bad_in game roots bytes ≡ Some at
  stuck_at rest at ss begins some none place =
      begins_bad game roots bytes ss rest (length bytes) (length rest) 0 at begins (omega arith) (omega arith) (omega (arith, place))
      ∙ bad_here game roots (length rest) at rest (full rest some) some none
    where
      full : (xs : List ℕ) → is_empty xs ≡ false → 0 < length xs
      full [] e = absurd (let no : true ≡ false = e in cc)
      full (x ∷ xs) e = omega arith

pub empty_of : (xs : List ℕ) → not (is_empty xs) ≡ false → xs ≡ []
empty_of [] e = refl
empty_of (x ∷ xs) e = absurd (let no : true ≡ false = e in cc)

pub some_of : (xs : List ℕ) → not (is_empty xs) ≡ true → is_empty xs ≡ false
some_of [] e = absurd (let no : false ≡ true = e in cc)
some_of (x ∷ xs) e = refl

-- ---- one sealed frame

pub one_sealed : (r : Result (Unit {0}) AllocError) (t t' : Taker) (file : ℕ) (f : TurnFrame) (seal : List ℕ) → OnOk r (Takes t.auditor t'.auditor file (Got (player_of f) f ∷ [])) →
    OnOk r (count_in t'.auditor file ≡ count_in t.auditor file + 1) → KeepsSeals t.seals t'.seals (with_seal f seal ∷ []) → OnOk r (TakesSealed t t' file (with_seal f seal ∷ []))
one_sealed (Ok x) t t' file f seal takes counted kept = record { taken = takes; kept = kept; counted = counted }
one_sealed (Err e) t t' file f seal takes counted kept = tt

pub sealed_leaves : (game : Game) (t t' : Taker) (file : ℕ) → IsOf game t → t'.auditor.session ≡ t.auditor.session → owner_in t'.auditor file ≡ owner_in t.auditor file → LeavesOthers t.auditor t'.auditor file →
    t'.seals.game ≡ t.seals.game → t'.seal ≡ t.seal → Leaves game t t' file
sealed_leaves game t t' file is session owner others book room = record {
  of_session = record { session = session ∙ is.session; book = book ∙ is.book; room = ap (λ (s : List ℕ). length s) room ∙ is.room };
  others = others;
  owner = owner;
}

-- ---- the front of bytes, sealed frame by sealed frame

-- the rest of the bytes as the code has it
module _ (game : Game) (roots : List (List ℕ)) where
  -- the sealed frame that was taken has its bytes
  pub took_within : (b c : Taker) (file : ℕ) (last : Bool) (bytes : List ℕ) (at : ℕ) (rest : List ℕ) (count : ℕ) → rest ≡ drop at bytes → IsNext game roots b c file last rest (next.Took count) → count + at ≤ length bytes + (at - length bytes)
  took_within b c file last bytes at rest count same w =
      let within = sealed_within game roots rest (ap is_some w.1) in
      let long = ap (λ (xs : List ℕ). length xs) same ∙ length-drop at bytes in
      let is = w.2 in
      omega (arith, within, long, is)

  pub front_took : (file : ℕ) (bytes : List ℕ) (a b c : Taker) (last : Bool) (at : ℕ) (rest : List ℕ) (count : ℕ) → rest ≡ drop at bytes → TakesFront game roots a b file bytes (drop at bytes) →
      IsNext game roots b c file last rest (next.Took count) → TakesFront game roots a c file bytes (drop (at + count) bytes)
  front_took file bytes a b c last at rest count same front w =
      front_more game roots file bytes a b c rest (drop (at + count) bytes) w.0 (seal_ahead game rest) (subst (TakesFront game roots a b file bytes) (sym same) front) w.1 refl
      (ap (λ (n : ℕ). drop n rest) (sym w.2) ∙ ap (drop count) same ∙ drop-drop count at bytes) w.3

  pub front_over : (file : ℕ) (bytes : List ℕ) (a b c : Taker) (last : Bool) (at : ℕ) (rest : List ℕ) → rest ≡ drop at bytes → at ≤ length bytes → TakesFront game roots a b file bytes (drop at bytes) →
      IsNext game roots b c file last rest next.Over → IsTakenTo game roots a c file last bytes at
  front_over file bytes a b c last at rest same within front w = record {
    within = within;
    front = subst (λ (t : Taker). TakesFront game roots a t file bytes (drop at bytes)) (sym w.1) front;
    over = ap (is_asked game last) (sym same) ∙ w.0;
  }

  pub front_stuck : (file : ℕ) (bytes : List ℕ) (a b c : Taker) (last : Bool) (at : ℕ) (rest : List ℕ) → rest ≡ drop at bytes → at ≤ length bytes → TakesFront game roots a b file bytes (drop at bytes) →
      IsNext game roots b c file last rest next.Stuck → (at ≤ length bytes) × IsStuck game roots last bytes (drop at bytes)
  front_stuck file bytes a b c last at rest same within front w = (
    within,
    record {
      frames = front.frames;
      begins = front.begins;
      asked = ap (is_asked game last) (sym same) ∙ w.0;
      none = ap (λ (xs : List ℕ). is_some (sealed_ahead game roots xs)) (sym same) ∙ w.1;
    },
  )

  pub few_left : (file : ℕ) (bytes : List ℕ) (a b : Taker) (at : ℕ) → TakesFront game roots a b file bytes (drop at bytes) → at < length bytes → count_in a.auditor file + length bytes ≤ LONGEST_LOG →
      count_in b.auditor file < LONGEST_LOG
  few_left file bytes a b at front some few =
      let short = begins_short game roots bytes front.frames (drop at bytes) front.begins in
      let left = length-drop at bytes in
      let counted = front.taken.counted in
      omega (arith, short, left, counted, some, few)

-- nothing is left to look at
pub none_asked : (game : Game) (last : Bool) (bytes : List ℕ) → length bytes ≤ 0 → is_asked game last bytes ≡ false
none_asked game true [] le = refl
none_asked game true (x ∷ xs) le = absurd (omega (arith, le))
none_asked game false bytes le = go (is_asked game false bytes) refl
  where
    go : (b : Bool) → is_asked game false bytes ≡ b → is_asked game false bytes ≡ false
    go false e = e
    go true e = absurd (let whole = leb-true (frame_len bytes + seal_len game) (length bytes) e in omega (arith, whole, le))

-- ---- all bytes of a file

pub all_taken : (game : Game) (roots : List (List ℕ)) (file : ℕ) (bytes : List ℕ) (a b : Taker) (count : ℕ) → IsTakenTo game roots a b file true bytes count → TakesBytes game roots a b file bytes
all_taken game roots file bytes a b count w = taken_whole game roots file bytes a b (drop count bytes) w.front (empty_of (drop count bytes) w.over)

pub bytes_fault : (game : Game) (roots : List (List ℕ)) (file : ℕ) (bytes : List ℕ) (x : FrontFault) → IsFrontFault game roots true bytes x → IsBytesFault game roots bytes x
bytes_fault game roots file bytes (front.Stuck at) (within, stuck) =
    let long = length-drop at bytes in
    stuck_at game roots file bytes (drop at bytes) at stuck.frames stuck.begins (some_of (drop at bytes) stuck.asked) stuck.none (omega (arith, long, within))
bytes_fault game roots file bytes front.Memory w = tt
