-- What is spelled is read, and what is read was spelled so.
use Rattle.std.proofs.Common.{◌≡◌, ◌≤◌, inl, inr, add-zero, add-one, ℕ, zero, suc, ◌+◌, ◌<◌, ◌^◌, List, [], ◌∷◌, ◌++◌, length, take, drop, refl, sym, ◌∙◌, ap, arith, get_or, Fits, w8, true, false}
use Rattle.std.specs.Prelude.{IfSome, IfNone, Option, Some, None, slice_range, slice_index, ◌==◌, ◌&&◌}
use Rattle.std.specs.Int.{w16, w32, to_be_bytes, from_be_bytes}
use Rattle.std.proofs.lemmas.List.{take_all, length-drop}
use Rattle.std.proofs.Math.Seq.{drop-cons}
use Rattle.std.proofs.lemmas.Bool.{eq-eqb, eqb-true, and_parts, and_from}
use Rattle.std.proofs.lemmas.Nat.{from_be_bytes-to_be_bytes_2, from_be_bytes-to_be_bytes_4, be_bytes_2, be_bytes_4}
use Rattle.definitions.specs.declared.world.Cell.{Cell}
use Rattle.definitions.specs.declared.world.Move.{Move}
use Rattle.definitions.specs.declared.openings.Digest.{Digest}
use Rattle.definitions.specs.declared.openings.Nonce.{Nonce}
use Rattle.definitions.specs.declared.frames.TurnFrame.{TurnFrame}
use Rattle.definitions.specs.declared.frames.TurnFrame.TheVariants.{Commit, Reveal}
use Rattle.definitions.specs.Openings.{cell_bytes, move_bytes, FitsCell, FitsStrike}
use Rattle.commitment.specs.Spelling.{frame_bytes, has_head, reveal_length, short_at, cell_at, turn_at, turn_frame_of, FitsFrame}
use Rattle.std.proofs.lemmas.Option.{same_Some, none-some}
use Rattle.plain_lemmas.proofs.Tests.{chosen}
use Rattle.definitions.proofs.Fronts.{front_same}
use Rattle.plain_lemmas.proofs.Lists.{AreBytes, two_bytes, four_bytes}

-- the list without its first 4, 5 or 9 items, which its length says it has
pub head_is : (kind payload : ℕ) (bytes : List ℕ) → length bytes ≡ payload + 3 → slice_index bytes 0 ≡ kind → slice_index bytes 1 ≡ 0 → slice_index bytes 2 ≡ payload →
    has_head kind payload bytes ≡ true
head_is kind payload bytes l a b c = and_from _ _ (and_from _ _ (and_from _ _ (eq-eqb _ _ l) (eq-eqb _ _ a)) (eq-eqb _ _ b)) (eq-eqb _ _ c)

commit_read : (p t : ℕ) (d : Digest) → FitsFrame (Commit p t d) → turn_frame_of (frame_bytes (Commit p t d)) ≡ Some (Commit p t d)
unfolding turn_frame_of frame_bytes
commit_read p t d f =
    let bs : List ℕ = 2 ∷ 0 ∷ 37 ∷ p ∷ (to_be_bytes w32 t ++ d.bytes) in
    let h : has_head 2 37 bs ≡ true = head_is 2 37 bs (omega (arith, f.2)) refl refl refl in
    let e : turn_at bs ≡ t = from_be_bytes-to_be_bytes_4 t f.1 in
    let n : slice_range bs 8 40 ≡ d.bytes = take_all 32 d.bytes (omega (arith, f.2)) in
    rw h (rw (e, n) refl)

pub other_kind : (kind payload : ℕ) (bytes : List ℕ) → (slice_index bytes 0 == kind) ≡ false → has_head kind payload bytes ≡ false
other_kind kind payload bytes a = grind arith

pub other_length : (kind payload : ℕ) (bytes : List ℕ) → (slice_index bytes 2 == payload) ≡ false → has_head kind payload bytes ≡ false
other_length kind payload bytes a = grind arith

cell_read : (c : Cell) (d : Cell) → FitsCell c → d.x ≡ from_be_bytes w16 (to_be_bytes w16 c.x) → d.y ≡ from_be_bytes w16 (to_be_bytes w16 c.y) → d ≡ c
cell_read c d f a b =
    let at_x : ℕ → Cell = λ n. record { x = n; y = d.y } in
    let at_y : ℕ → Cell = λ n. record { x = c.x; y = n } in
    ap at_x (a ∙ from_be_bytes-to_be_bytes_2 c.x f.0) ∙ ap at_y (b ∙ from_be_bytes-to_be_bytes_2 c.y f.1)

plain_read : (p t : ℕ) (to : Cell) (n : Nonce) → p < 2 ^ 8 → t < 2 ^ 32 → FitsCell to → length n.bytes ≡ 32 →
    let m : Move = record { to = to; strike = None } in
    turn_frame_of (frame_bytes (Reveal p t m n)) ≡ Some (Reveal p t m n)
unfolding turn_frame_of frame_bytes move_bytes cell_bytes
plain_read p t to n fp ft fc fn =
    let bs : List ℕ = 3 ∷ 0 ∷ 42 ∷ p ∷ (to_be_bytes w32 t ++ ((to_be_bytes w16 to.x ++ to_be_bytes w16 to.y) ++ 0 ∷ []) ++ n.bytes) in
    let o : has_head 2 37 bs ≡ false = other_kind 2 37 bs refl in
    let h : has_head 3 42 bs ≡ true = head_is 3 42 bs (omega arith) refl refl refl in
    let e : turn_at bs ≡ t = from_be_bytes-to_be_bytes_4 t ft in
    let c : cell_at bs 8 ≡ to = cell_read to (cell_at bs 8) fc refl refl in
    let k : slice_range bs 13 45 ≡ n.bytes = take_all 32 n.bytes (omega arith) in
    rw (o, h) (rw (e, c, k) refl)

strike_read : (p t : ℕ) (to at : Cell) (n : Nonce) → p < 2 ^ 8 → t < 2 ^ 32 → FitsCell to → FitsCell at → length n.bytes ≡ 32 →
    let m : Move = record { to = to; strike = Some at } in
    turn_frame_of (frame_bytes (Reveal p t m n)) ≡ Some (Reveal p t m n)
unfolding turn_frame_of frame_bytes move_bytes cell_bytes
strike_read p t to at n fp ft fc fa fn =
    let bs : List ℕ = 3 ∷ 0 ∷ 46 ∷ p ∷ (to_be_bytes w32 t ++ ((to_be_bytes w16 to.x ++ to_be_bytes w16 to.y) ++ 1 ∷ (to_be_bytes w16 at.x ++ to_be_bytes w16 at.y)) ++ n.bytes) in
    let o : has_head 2 37 bs ≡ false = other_kind 2 37 bs refl in
    let l : has_head 3 42 bs ≡ false = other_length 3 42 bs refl in
    let h : has_head 3 46 bs ≡ true = head_is 3 46 bs (omega arith) refl refl refl in
    let e : turn_at bs ≡ t = from_be_bytes-to_be_bytes_4 t ft in
    let c : cell_at bs 8 ≡ to = cell_read to (cell_at bs 8) fc refl refl in
    let d : cell_at bs 13 ≡ at = cell_read at (cell_at bs 13) fa refl refl in
    let k : slice_range bs 17 49 ≡ n.bytes = take_all 32 n.bytes (omega arith) in
    rw (o, l, h) (rw (e, c, d, k) refl)

reveal_read : (p t : ℕ) (to : Cell) (strike : Option Cell) (n : Nonce) → p < 2 ^ 8 → t < 2 ^ 32 → FitsCell to → FitsStrike strike → length n.bytes ≡ 32 →
    let m : Move = record { to = to; strike = strike } in
    turn_frame_of (frame_bytes (Reveal p t m n)) ≡ Some (Reveal p t m n)
reveal_read p t to None n fp ft fc fs fn = plain_read p t to n fp ft fc fn
reveal_read p t to (Some at) n fp ft fc fs fn = strike_read p t to at n fp ft fc fs fn

-- what is spelled is read
pub spelled_read : (f : TurnFrame) → FitsFrame f → turn_frame_of (frame_bytes f) ≡ Some f
spelled_read (Commit p t d) f = commit_read p t d f
spelled_read (Reveal p t m n) f = reveal_read p t m.to m.strike n f.0 f.1 f.2 f.3 f.4

-- n items from the i-th on
firsts : ℕ → ℕ → List ℕ → List ℕ
firsts zero i xs = []
firsts (suc n) i xs = slice_index xs i ∷ firsts n (i + 1) xs

firsts-rest : (n i : ℕ) (xs : List ℕ) → i + n ≤ length xs → firsts n i xs ++ drop (i + n) xs ≡ drop i xs
unfolding firsts
firsts-rest zero i xs h = rw add-zero refl
firsts-rest (suc n) i xs h =
    let ih = firsts-rest n (i + 1) xs (omega arith) in
    let e : i + suc n ≡ (i + 1) + n = omega arith in
    let one : drop i xs ≡ slice_index xs i ∷ drop (suc i) xs = drop-cons xs i 0 (omega arith) in
    let two : drop (suc i) xs ≡ drop (i + 1) xs = rw add-one refl in
    rw e (ap (λ ys. slice_index xs i ∷ ys) (ih ∙ sym two) ∙ sym one)

-- what a passed head says
pub heads : (kind payload : ℕ) (bytes : List ℕ) → has_head kind payload bytes ≡ true →
    (length bytes ≡ payload + 3) × (slice_index bytes 0 ≡ kind) × (slice_index bytes 1 ≡ 0) × (slice_index bytes 2 ≡ payload)
heads kind payload bytes h =
    let a = and_parts _ _ h in
    let b = and_parts _ _ a.0 in
    let c = and_parts _ _ b.0 in
    (eqb-true _ _ c.0, eqb-true _ _ c.1, eqb-true _ _ b.1, eqb-true _ _ a.1)

short_spelled : (bytes : List ℕ) (at : ℕ) → AreBytes bytes → to_be_bytes w16 (short_at bytes at) ≡ slice_index bytes at ∷ slice_index bytes (at + 1) ∷ []
short_spelled bytes at b =
    let few : AreBytes (slice_index bytes at ∷ slice_index bytes (at + 1) ∷ []) = two_bytes _ _ (b at) (b (at + 1)) in
    be_bytes_2 (slice_index bytes at ∷ slice_index bytes (at + 1) ∷ []) (short_at bytes at) refl few refl

turn_spelled : (bytes : List ℕ) → AreBytes bytes → to_be_bytes w32 (turn_at bytes) ≡ firsts 4 4 bytes
unfolding firsts
turn_spelled bytes b = be_bytes_4 (firsts 4 4 bytes) (turn_at bytes) refl (four_bytes _ _ _ _ (b 4) (b 5) (b 6) (b 7)) refl

rest_is : (n m : ℕ) (bytes : List ℕ) → length bytes ≡ n + m → take m (drop n bytes) ≡ drop n bytes
rest_is n m bytes l = take_all m (drop n bytes) (omega (arith, length-drop n bytes))

commit_again : (bytes : List ℕ) → AreBytes bytes → has_head 2 37 bytes ≡ true →
    frame_bytes (Commit (slice_index bytes 3) (turn_at bytes) (record { bytes = slice_range bytes 8 40 })) ≡ bytes
unfolding frame_bytes firsts
commit_again bytes b h =
    let p = heads 2 37 bytes h in
    let all = firsts-rest 8 0 bytes (omega (arith, p.0)) in
    let with_turn : List ℕ → List ℕ = λ t. 2 ∷ 0 ∷ 37 ∷ slice_index bytes 3 ∷ (t ++ slice_range bytes 8 40) in
    let with_head : ℕ → ℕ → ℕ → List ℕ → List ℕ = λ k z l r. k ∷ z ∷ l ∷ slice_index bytes 3 ∷ (firsts 4 4 bytes ++ r) in
    ap with_turn (turn_spelled bytes b) ∙ ap (with_head 2 0 37) (rest_is 8 32 bytes p.0) ∙
    ap (λ k. with_head k 0 37 (drop 8 bytes)) (sym p.1) ∙ ap (λ z. with_head (slice_index bytes 0) z 37 (drop 8 bytes)) (sym p.2) ∙
    ap (λ l. with_head (slice_index bytes 0) (slice_index bytes 1) l (drop 8 bytes)) (sym p.3) ∙ all

-- the bytes of a reveal from its parts: its kind and length, its turn, its target, its flag, its strike, and what is left
parts : (kind zero_is payload player : ℕ) (turn x y : List ℕ) (flag : ℕ) (strike rest : List ℕ) → List ℕ
parts k z l p t x y f s r = k ∷ z ∷ l ∷ p ∷ (t ++ (((x ++ y) ++ f ∷ s) ++ r))

parts-same : (k z l p f k' z' l' f' : ℕ) (t x y s r t' x' y' s' r' : List ℕ) → k ≡ k' → z ≡ z' → l ≡ l' → f ≡ f' → t ≡ t' → x ≡ x' → y ≡ y' → s ≡ s' → r ≡ r' →
    parts k z l p t x y f s r ≡ parts k' z' l' p t' x' y' f' s' r'
parts-same k z l p f k' z' l' f' t x y s r t' x' y' s' r' a b c d e g h i j = cc

plain_again : (bytes : List ℕ) → AreBytes bytes → has_head 3 42 bytes ≡ true → slice_index bytes 12 ≡ 0 →
    frame_bytes (Reveal (slice_index bytes 3) (turn_at bytes) (record { to = cell_at bytes 8; strike = None }) (record { bytes = slice_range bytes 13 45 })) ≡ bytes
unfolding frame_bytes move_bytes cell_bytes firsts parts
plain_again bytes b h f =
    let p = heads 3 42 bytes h in
    let all = firsts-rest 13 0 bytes (omega (arith, p.0)) in
    let same : parts 3 0 42 (slice_index bytes 3) (to_be_bytes w32 (turn_at bytes)) (to_be_bytes w16 (short_at bytes 8)) (to_be_bytes w16 (short_at bytes 10)) 0 [] (slice_range bytes 13 45)
    ≡ parts (slice_index bytes 0) (slice_index bytes 1) (slice_index bytes 2) (slice_index bytes 3) (firsts 4 4 bytes) (firsts 2 8 bytes) (firsts 2 10 bytes) (slice_index bytes 12) [] (drop 13 bytes)
    = parts-same 3 0 42 (slice_index bytes 3) 0 _ _ _ _ _ _ _ [] _ _ _ _ [] _ (sym p.1) (sym p.2) (sym p.3) (sym f) (turn_spelled bytes b) (short_spelled bytes 8 b) (short_spelled bytes 10 b) refl (rest_is 13 32 bytes p.0) in
    same ∙ all

strike_again : (bytes : List ℕ) → AreBytes bytes → has_head 3 46 bytes ≡ true → slice_index bytes 12 ≡ 1 →
    frame_bytes (Reveal (slice_index bytes 3) (turn_at bytes) (record { to = cell_at bytes 8; strike = Some (cell_at bytes 13) }) (record { bytes = slice_range bytes 17 49 })) ≡ bytes
unfolding frame_bytes move_bytes cell_bytes firsts parts
strike_again bytes b h f =
    let p = heads 3 46 bytes h in
    let all = firsts-rest 17 0 bytes (omega (arith, p.0)) in
    let pair : List ℕ → List ℕ → List ℕ = λ x y. x ++ y in
    let strike : to_be_bytes w16 (short_at bytes 13) ++ to_be_bytes w16 (short_at bytes 15) ≡ firsts 2 13 bytes ++ firsts 2 15 bytes
    = ap (λ x. pair x (to_be_bytes w16 (short_at bytes 15))) (short_spelled bytes 13 b) ∙ ap (pair (firsts 2 13 bytes)) (short_spelled bytes 15 b) in
    let same : parts 3 0 46 (slice_index bytes 3) (to_be_bytes w32 (turn_at bytes)) (to_be_bytes w16 (short_at bytes 8)) (to_be_bytes w16 (short_at bytes 10)) 1
    (to_be_bytes w16 (short_at bytes 13) ++ to_be_bytes w16 (short_at bytes 15)) (slice_range bytes 17 49)
    ≡ parts (slice_index bytes 0) (slice_index bytes 1) (slice_index bytes 2) (slice_index bytes 3) (firsts 4 4 bytes) (firsts 2 8 bytes) (firsts 2 10 bytes) (slice_index bytes 12)
    (firsts 2 13 bytes ++ firsts 2 15 bytes) (drop 17 bytes)
    = parts-same 3 0 46 (slice_index bytes 3) 1 _ _ _ _ _ _ _ _ _ _ _ _ _ _ (sym p.1) (sym p.2) (sym p.3) (sym f) (turn_spelled bytes b) (short_spelled bytes 8 b) (short_spelled bytes 10 b) strike (rest_is 17 32 bytes p.0) in
    same ∙ all

-- what is read was spelled so
pub read_spelled : (bytes : List ℕ) (f : TurnFrame) → AreBytes bytes → turn_frame_of bytes ≡ Some f → frame_bytes f ≡ bytes
unfolding turn_frame_of
read_spelled bytes f b h = elim (chosen (has_head 2 37 bytes) _ _ _ h) [
  | inl a ↦ rw (sym (same_Some _ _ a.1)) (commit_again bytes b a.0)
  | inr n ↦ elim (chosen (has_head 3 42 bytes && (slice_index bytes 12 == 0)) _ _ _ n.1) [
    | inl a ↦ let t = and_parts _ _ a.0 in rw (sym (same_Some _ _ a.1)) (plain_again bytes b t.0 (eqb-true _ _ t.1))
    | inr m ↦ elim (chosen (has_head 3 46 bytes && (slice_index bytes 12 == 1)) _ _ _ m.1) [
      | inl a ↦ let t = and_parts _ _ a.0 in rw (sym (same_Some _ _ a.1)) (strike_again bytes b t.0 (eqb-true _ _ t.1))
      | inr o ↦ absurd (none-some _ o.1)
    ]
  ]
]

-- a frame that is read is spelled by the bytes
pub found_of : (bytes : List ℕ) (r : Option TurnFrame) → ((i : ℕ) → Fits w8 (get_or bytes i 0)) → r ≡ turn_frame_of bytes → IfSome r (λ f. frame_bytes f ≡ bytes)
found_of bytes None b e = tt
found_of bytes (Some f) b e = read_spelled bytes f (λ i. omega (arith, b i)) (sym e)

-- where none is read, the bytes spell none
pub none_of : (bytes : List ℕ) (r : Option TurnFrame) → r ≡ turn_frame_of bytes → IfNone r ((f : TurnFrame) → FitsFrame f → bytes ≡ frame_bytes f → ⊥)
none_of bytes None e = λ f fits g. none-some f (e ∙ ap turn_frame_of g ∙ spelled_read f fits)
none_of bytes (Some f) e = tt

length-reveal : (p t : ℕ) (to : Cell) (strike : Option Cell) (n : Nonce) → length n.bytes ≡ 32 →
    let f : TurnFrame = Reveal p t (record { to = to; strike = strike }) n in
    length (frame_bytes f) ≡ slice_index (frame_bytes f) 2 + 3
unfolding frame_bytes move_bytes cell_bytes
length-reveal p t to None n h = omega arith
length-reveal p t to (Some c) n h = omega arith

pub length-frame : (f : TurnFrame) → FitsFrame f → length (frame_bytes f) ≡ slice_index (frame_bytes f) 2 + 3
unfolding frame_bytes move_bytes cell_bytes
length-frame (Commit p t d) h = omega (arith, h.2)
length-frame (Reveal p t m n) h = length-reveal p t m.to m.strike n h.4

payload_short : (strike : Option Cell) → reveal_length strike ≤ 46
payload_short None = omega arith
payload_short (Some c) = omega arith

-- no frame is longer than 49 bytes
pub frame_short : (f : TurnFrame) → FitsFrame f → length (frame_bytes f) ≤ 49
unfolding frame_bytes
frame_short (Commit p t d) h = let l = length-frame (Commit p t d) h in omega arith
frame_short (Reveal p t m n) h = let l = length-frame (Reveal p t m n) h in let s = payload_short m.strike in omega arith

-- the third byte of a frame stays where more bytes follow
third_byte : (f : TurnFrame) (x : List ℕ) → slice_index (frame_bytes f ++ x) 2 ≡ slice_index (frame_bytes f) 2
unfolding frame_bytes
third_byte (Commit p t d) x = refl
third_byte (Reveal p t m n) x = refl

-- no spelling begins another
pub none_begins : (f g : TurnFrame) (x y : List ℕ) → FitsFrame f → FitsFrame g → frame_bytes f ++ x ≡ frame_bytes g ++ y → (f ≡ g) × (x ≡ y)
none_begins f g x y h k e =
    let byte : slice_index (frame_bytes f) 2 ≡ slice_index (frame_bytes g) 2
    = sym (third_byte f x) ∙ ap (λ b. slice_index b 2) e ∙ third_byte g y in
    let long : length (frame_bytes f) ≡ length (frame_bytes g) = omega (arith, length-frame f h, length-frame g k) in
    let both = front_same _ _ _ _ long e in
    (same_Some f g (sym (spelled_read f h) ∙ ap turn_frame_of both.0 ∙ spelled_read g k), both.1)
