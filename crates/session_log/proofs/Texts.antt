-- Texts: an entry's text is read as the entry, and what is read has the text.
use Rattle.std.proofs.Common.{◌≡◌, ◌≤◌, inl, inr, ℕ, zero, suc, ◌+◌, ◌<◌, ◌^◌, true, false, List, [], ◌∷◌, ◌++◌, length, take, drop, refl, sym, ◌∙◌, ap, arith, get_or, subst, Fits, w8}
use Rattle.std.specs.Prelude.{Option, Some, None, slice_index, ◌==◌, ◌&&◌, option_map, IfSome, IfNone}
use Rattle.std.specs.Int.{w16, w32, to_be_bytes, from_be_bytes}
use Rattle.std.proofs.lemmas.Bool.{eqb-true, eq-eqb, ne_eqb, and_parts, cases_lt}
use Rattle.std.proofs.lemmas.List.{length-drop}
use Rattle.std.proofs.lemmas.Nat.{from_be_bytes-to_be_bytes_2, be_bytes_2}
use Rattle.definitions.specs.declared.world.Cell.{Cell}
use Rattle.definitions.specs.declared.world.Move.{Move}
use Rattle.definitions.specs.declared.openings.Nonce.{Nonce}
use Rattle.definitions.specs.declared.frames.TurnFrame.{TurnFrame}
use Rattle.definitions.specs.declared.frames.TurnFrame.TheVariants.{Commit, Reveal}
use Rattle.definitions.specs.declared.logs.Entry.{Entry}
use Rattle.definitions.specs.declared.logs.Entry.TheVariants.{Chose, Made, Got}
use Rattle.definitions.specs.Openings.{cell_bytes, move_bytes}
use Rattle.commitment.specs.Spelling.{frame_bytes, has_head, turn_frame_of, FitsFrame}
use Rattle.commitment.proofs.Reading.{frame_short, spelled_read, read_spelled}
use Rattle.session_log.specs.Spelling.{kind_of, body_of, entry_text, FitsEntry}
use Rattle.session_log.specs.Entries.{choice_of, as_reveal, chose_of, made_of, got_of, entry_by, told_len, entry_of}
use Rattle.session_log.specs.Laws.{AreBytes}
use Rattle.plain_lemmas.proofs.Options.{map_some}
use Rattle.plain_lemmas.proofs.Tests.{chosen}
use Rattle.plain_lemmas.proofs.Lists.{two_bytes}

-- ---- longer than any frame

not_long : (kind payload : ℕ) (bytes : List ℕ) → payload ≤ 46 → 49 < length bytes → has_head kind payload bytes ≡ false
not_long kind payload bytes few long =
    let other : (length bytes == payload + 3) ≡ false = ne_eqb (length bytes) (payload + 3) (λ e. absurd (omega arith)) in
    rw other refl

pub long_none : (bytes : List ℕ) → 49 < length bytes → turn_frame_of bytes ≡ None
unfolding turn_frame_of
long_none bytes long =
    let a : has_head 2 37 bytes ≡ false = not_long 2 37 bytes (omega arith) long in
    let b : has_head 3 42 bytes ≡ false = not_long 3 42 bytes (omega arith) long in
    let c : has_head 3 46 bytes ≡ false = not_long 3 46 bytes (omega arith) long in
    rw (a, b, c) refl

pub chose_of-long : (body : List ℕ) → 60 < length body → None ≡ chose_of body
unfolding chose_of
chose_of-long body long = ap choice_of (sym (long_none (as_reveal body) (omega arith)))

-- ---- what is spelled is read

-- a reveal by player 0 says a choice behind its first four bytes
reveal_is : (t : ℕ) (to : Cell) (strike : Option Cell) (n : Nonce) → length n.bytes ≡ 32 → let m : Move = record { to = to; strike = strike } in
    as_reveal (body_of (Chose t m n)) ≡ frame_bytes (Reveal 0 t m n)
unfolding body_of frame_bytes move_bytes cell_bytes
reveal_is t to None n h =
    let m : Move = record { to = to; strike = None } in
    let long : length (to_be_bytes w32 t ++ (move_bytes m ++ n.bytes)) + 1 ≡ 42 = omega arith in
    ap (λ k. 3 ∷ 0 ∷ k ∷ 0 ∷ (to_be_bytes w32 t ++ (move_bytes m ++ n.bytes))) long
reveal_is t to (Some c) n h =
    let m : Move = record { to = to; strike = Some c } in
    let long : length (to_be_bytes w32 t ++ (move_bytes m ++ n.bytes)) + 1 ≡ 46 = omega arith in
    ap (λ k. 3 ∷ 0 ∷ k ∷ 0 ∷ (to_be_bytes w32 t ++ (move_bytes m ++ n.bytes))) long

chose_read : (t : ℕ) (m : Move) (n : Nonce) → FitsEntry (Chose t m n) → chose_of (body_of (Chose t m n)) ≡ Some (Chose t m n)
unfolding chose_of
chose_read t m n h =
    let fits : FitsFrame (Reveal 0 t m n) = (omega arith, h.0, h.1, h.2, h.3) in
    ap (λ bytes. choice_of (turn_frame_of bytes)) (reveal_is t m.to m.strike n h.3) ∙ ap choice_of (spelled_read (Reveal 0 t m n) fits)

made_read : (f : TurnFrame) → FitsFrame f → made_of (body_of (Made f)) ≡ Some (Made f)
unfolding body_of
made_read f h = ap (option_map (λ (g : TurnFrame). Made g)) (spelled_read f h)

got_read : (q : ℕ) (f : TurnFrame) → FitsFrame f → got_of (body_of (Got q f)) ≡ Some (Got q f)
unfolding body_of
got_read q f h = ap (option_map (λ (g : TurnFrame). Got q g)) (spelled_read f h)

body_read : (e : Entry) → FitsEntry e → entry_by (kind_of e) (body_of e) ≡ Some e
body_read (Chose t m n) h = chose_read t m n h
body_read (Made f) h = made_read f h
body_read (Got q f) h = got_read q f h.1

chose_short : (t : ℕ) (to : Cell) (strike : Option Cell) (n : Nonce) → length n.bytes ≡ 32 → length (body_of (Chose t (record { to = to; strike = strike }) n)) ≤ 50
unfolding body_of move_bytes cell_bytes
chose_short t to None n h = omega arith
chose_short t to (Some c) n h = omega arith

-- no body is longer than 50 bytes
pub body_short : (e : Entry) → FitsEntry e → length (body_of e) ≤ 50
unfolding body_of
body_short (Chose t m n) h = chose_short t m.to m.strike n h.3
body_short (Made f) h = let l = frame_short f h in omega arith
body_short (Got q f) h = let l = frame_short f h.1 in omega arith

told_same : (n k : ℕ) (body : List ℕ) → n < 2 ^ 16 → told_len (to_be_bytes w16 n ++ (k ∷ body)) ≡ n
told_same n k body small = from_be_bytes-to_be_bytes_2 n small

text_read : (n k : ℕ) (body : List ℕ) → n ≡ length body → n < 2 ^ 16 → entry_of (to_be_bytes w16 n ++ (k ∷ body)) ≡ entry_by k body
unfolding entry_of
text_read n k body long small =
    let text : List ℕ = to_be_bytes w16 n ++ (k ∷ body) in
    let told : told_len text ≡ n = told_same n k body small in
    let all : length text ≡ told_len text + 3 = omega arith in
    let t : (length text == told_len text + 3) ≡ true = eq-eqb _ _ all in
    rw t refl

-- an entry is read from its text
pub entry_read : (e : Entry) → FitsEntry e → entry_of (entry_text e) ≡ Some e
unfolding entry_text
entry_read e h =
    let short = body_short e h in
    text_read (length (body_of e)) (kind_of e) (body_of e) refl (omega arith) ∙ body_read e h

pub told_len-text : (e : Entry) (rest : List ℕ) → FitsEntry e → told_len (entry_text e ++ rest) ≡ length (body_of e)
unfolding entry_text
told_len-text e rest h = let short = body_short e h in told_same (length (body_of e)) (kind_of e) (body_of e ++ rest) (omega arith)

pub length-entry_text : (e : Entry) → length (entry_text e) ≡ length (body_of e) + 3
unfolding entry_text
length-entry_text e = omega arith

-- ---- what is read was spelled so

none_some : {X : Type 0} (x : X) → None ≡ Some x → ⊥
none_some x h = cc

head_length : (kind payload : ℕ) (bytes : List ℕ) → has_head kind payload bytes ≡ true → length bytes ≡ payload + 3
head_length kind payload bytes h = eqb-true _ _ (and_parts _ _ (and_parts _ _ (and_parts _ _ h).0).0).0

-- bytes that are a frame are few
read_short : (bytes : List ℕ) (f : TurnFrame) → turn_frame_of bytes ≡ Some f → length bytes ≤ 49
unfolding turn_frame_of
read_short bytes f h = elim (chosen (has_head 2 37 bytes) _ _ _ h) [
  | inl a ↦ let l = head_length 2 37 bytes a.0 in omega arith
  | inr n ↦ elim (chosen (has_head 3 42 bytes && (slice_index bytes 12 == 0)) _ _ _ n.1) [
    | inl a ↦ let l = head_length 3 42 bytes (and_parts _ _ a.0).0 in omega arith
    | inr m ↦ elim (chosen (has_head 3 46 bytes && (slice_index bytes 12 == 1)) _ _ _ m.1) [
      | inl a ↦ let l = head_length 3 46 bytes (and_parts _ _ a.0).0 in omega arith
      | inr o ↦ absurd (none_some _ o.1)
    ]
  ]
]

-- the text of an entry of this kind, if the body is its own
body_is : ℕ → List ℕ → Entry → Type 0
body_is k body e = (kind_of e ≡ k) × (body_of e ≡ body)

reveal_bytes : (body : List ℕ) → length body ≤ 60 → AreBytes body → AreBytes (as_reveal body)
reveal_bytes body few b zero = omega arith
reveal_bytes body few b (suc zero) = omega arith
reveal_bytes body few b (suc (suc zero)) = omega arith
reveal_bytes body few b (suc (suc (suc zero))) = omega arith
reveal_bytes body few b (suc (suc (suc (suc i)))) = b i

reveal_body : (p t : ℕ) (m : Move) (n : Nonce) (body : List ℕ) → frame_bytes (Reveal p t m n) ≡ as_reveal body → body_of (Chose t m n) ≡ body
unfolding frame_bytes body_of
reveal_body p t m n body e = cc

chose_again : (body : List ℕ) (o : Option TurnFrame) (e : Entry) → AreBytes body → turn_frame_of (as_reveal body) ≡ o → choice_of o ≡ Some e → body_is 1 body e
unfolding body_is
chose_again body None e b t h = absurd cc
chose_again body (Some (Commit p t d)) e b q h = absurd cc
chose_again body (Some (Reveal p t m n)) e b q h =
    let same : Chose t m n ≡ e = cc in
    let few = read_short (as_reveal body) (Reveal p t m n) q in
    let spelled : frame_bytes (Reveal p t m n) ≡ as_reveal body = read_spelled (as_reveal body) (Reveal p t m n) (reveal_bytes body (omega arith) b) q in
    subst (λ (x : Entry). (kind_of x ≡ 1) × (body_of x ≡ body)) same (refl, reveal_body p t m n body spelled)

made_again : (body : List ℕ) (e : Entry) → AreBytes body → made_of body ≡ Some e → body_is 2 body e
unfolding body_is body_of
made_again body e b h =
    let read = map_some (λ (f : TurnFrame). Made f) (turn_frame_of body) e h in
    subst (λ (x : Entry). (kind_of x ≡ 2) × (body_of x ≡ body)) read.2 (refl, read_spelled body read.0 b read.1)

got_again : (body : List ℕ) (e : Entry) → AreBytes body → got_of body ≡ Some e → body_is 3 body e
unfolding body_is body_of
got_again [] e b h = absurd cc
got_again (q ∷ frame) e b h =
    let read = map_some (λ (f : TurnFrame). Got q f) (turn_frame_of frame) e h in
    subst (λ (x : Entry). (kind_of x ≡ 3) × (body_of x ≡ q ∷ frame)) read.2 (refl, ap (λ xs. q ∷ xs) (read_spelled frame read.0 (λ i. b (suc i)) read.1))

body_again : (k : ℕ) (body : List ℕ) (e : Entry) → AreBytes body → entry_by k body ≡ Some e → body_is k body e
unfolding body_is chose_of
body_again k body e b h = elim (chosen (k == 1) _ _ _ h) [
  | inl a ↦ let r = chose_again body (turn_frame_of (as_reveal body)) e b refl a.1 in (r.0 ∙ sym (eqb-true k 1 a.0), r.1)
  | inr n ↦ elim (chosen (k == 2) _ _ _ n.1) [
    | inl a ↦ let r = made_again body e b a.1 in (r.0 ∙ sym (eqb-true k 2 a.0), r.1)
    | inr m ↦ elim (chosen (k == 3) _ _ _ m.1) [
      | inl a ↦ let r = got_again body e b a.1 in (r.0 ∙ sym (eqb-true k 3 a.0), r.1)
      | inr o ↦ absurd (none_some _ o.1)
    ]
  ]
]

joined_again : (a b k : ℕ) (body : List ℕ) (e : Entry) → AreBytes (a ∷ b ∷ k ∷ body) → length body ≡ from_be_bytes w16 (a ∷ b ∷ []) → entry_by k body ≡ Some e → entry_text e ≡ a ∷ b ∷ k ∷ body
unfolding entry_text body_is
joined_again a b k body e bytes long h =
    let is = body_again k body e (λ i. bytes (suc (suc (suc i)))) h in
    let front : to_be_bytes w16 (length body) ≡ a ∷ b ∷ [] = be_bytes_2 (a ∷ b ∷ []) (length body) refl (two_bytes a b (bytes 0) (bytes 1)) long in
    ap (λ xs. to_be_bytes w16 (length xs) ++ (kind_of e ∷ xs)) is.1 ∙ ap (λ n. to_be_bytes w16 (length body) ++ (n ∷ body)) is.0 ∙ ap (λ xs. xs ++ (k ∷ body)) front

-- fewer than three bytes are no text
short_none : (text : List ℕ) (e : Entry) → length text < 3 → entry_of text ≡ Some e → ⊥
unfolding entry_of
short_none text e few h = elim (chosen (length text == told_len text + 3) _ _ _ h) [
  | inl a ↦ let l = eqb-true _ _ a.0 in omega arith
  | inr n ↦ none_some _ n.1
]

-- an entry that is read has the text
pub entry_spelled : (text : List ℕ) (e : Entry) → AreBytes text → entry_of text ≡ Some e → entry_text e ≡ text
unfolding entry_of
entry_spelled [] e b h = absurd (short_none [] e (omega arith) h)
entry_spelled (x ∷ []) e b h = absurd (short_none (x ∷ []) e (omega arith) h)
entry_spelled (x ∷ y ∷ []) e b h = absurd (short_none (x ∷ y ∷ []) e (omega arith) h)
entry_spelled (x ∷ y ∷ k ∷ body) e b h = elim (chosen (length (x ∷ y ∷ k ∷ body) == told_len (x ∷ y ∷ k ∷ body) + 3) _ _ _ h) [
  | inl a ↦ let l = eqb-true _ _ a.0 in joined_again x y k body e b (omega arith) a.1
  | inr n ↦ absurd (none_some _ n.1)
]

-- what a call of the reader found
pub found_of : (text : List ℕ) (r : Option Entry) → ((i : ℕ) → Fits w8 (get_or text i 0)) → r ≡ entry_of text → IfSome r (λ e. entry_text e ≡ text)
found_of text None b e = tt
found_of text (Some x) b e = entry_spelled text x (λ i. omega (arith, b i)) (sym e)

pub none_of : (text : List ℕ) (r : Option Entry) → r ≡ entry_of text → IfNone r ((e : Entry) → FitsEntry e → text ≡ entry_text e → ⊥)
none_of text None q = λ e fits same. none_some e (q ∙ ap entry_of same ∙ entry_read e fits)
none_of text (Some x) q = tt

-- ---- a text that is longer than those of entries

none_by : {X : Type 0} (o : Option X) → ((x : X) → o ≡ Some x → ⊥) → o ≡ None
none_by None other = refl
none_by (Some x) other = absurd (other x refl)

some_short : (k : ℕ) (body : List ℕ) (e : Entry) → entry_by k body ≡ Some e → length body ≤ 60
some_short k body e h = elim (chosen (k == 1) _ _ _ h) [
  | inl a ↦ elim (cases_lt 60 (length body)) [
    | inl long ↦ absurd (none_some e (chose_of-long body long ∙ a.1))
    | inr le ↦ le
  ]
  | inr n ↦ elim (chosen (k == 2) _ _ _ n.1) [
    | inl a ↦
        let read = map_some (λ (f : TurnFrame). Made f) (turn_frame_of body) e a.1 in
        let few = read_short body read.0 read.1 in
        omega arith
    | inr m ↦ elim (chosen (k == 3) _ _ _ m.1) [
      | inl a ↦ got_short body e a.1
      | inr o ↦ absurd (none_some e o.1)
    ]
  ]
]
  where
    got_short : (body : List ℕ) (e : Entry) → got_of body ≡ Some e → length body ≤ 60
    got_short [] e h = omega arith
    got_short (q ∷ frame) e h =
        let read = map_some (λ (f : TurnFrame). Got q f) (turn_frame_of frame) e h in
        let few = read_short frame read.0 read.1 in
        omega arith

pub entry_of-long : (text : List ℕ) → 64 < length text → entry_of text ≡ None
unfolding entry_of
entry_of-long text long = none_by (entry_of text) (λ e h. elim (chosen (length text == told_len text + 3) _ _ _ h) [
  | inl a ↦
      let few = some_short (slice_index text 2) (drop 3 text) e a.1 in
      let l = length-drop 3 text in
      omega arith
  | inr n ↦ none_some e n.1
])

-- ---- how long the body is, the first two bytes tell

pub told_cut : (n : ℕ) (xs : List ℕ) → 2 ≤ n → told_len (take n xs) ≡ told_len xs
told_cut zero xs le = absurd (omega arith)
told_cut (suc zero) xs le = absurd (omega arith)
told_cut (suc (suc n)) [] le = refl
told_cut (suc (suc n)) (x ∷ []) le = refl
told_cut (suc (suc n)) (x ∷ y ∷ xs) le = refl

pub told_more : (xs ys : List ℕ) → 2 ≤ length xs → told_len (xs ++ ys) ≡ told_len xs
told_more [] ys le = absurd (omega arith)
told_more (x ∷ []) ys le = absurd (omega arith)
told_more (x ∷ y ∷ xs) ys le = refl
