-- Lists: their fronts, lists by number, and lists of bytes.
use Rattle.std.proofs.Common.{◌≡◌, ℕ, zero, suc, ◌+◌, ◌-◌, ◌<◌, ◌≤◌, min, List, [], ◌∷◌, ◌++◌, length, take, drop, get_or, replicate, refl, sym, ap, ◌∙◌, arith, inl, inr, length-append, append_assoc, append-nil, add-zero, zero-add}
use Rattle.std.specs.Prelude.{Option, Some, None, if◌then◌else◌, bytes_eq, slice_index, flat_map}
use Rattle.std.specs.List.{range_with_len}
use Rattle.std.proofs.Math.Seq.{take-append-add}
use Rattle.std.proofs.lemmas.Bool.{cases_lt}
use Rattle.std.proofs.lemmas.Grind.{flat_map-append}
use Rattle.std.proofs.lemmas.List.{take-append-drop, take_at, take_all, length-take-le, get_or-take, get_or-drop, get_or_past}
use Rattle.std.proofs.lemmas.Slice.Eq.{bytes_eq-Decides}
use Rattle.plain_lemmas.proofs.Options.{some_when}

-- what stands behind a front: the front stands there, and the text behind it
pub front_stands : (front text rest : List ℕ) → (if bytes_eq (take (length front) text) front then Some (drop (length front) text) else None) ≡ Some rest → text ≡ front ++ rest
front_stands front text rest h =
    let kept = some_when (bytes_eq (take (length front) text) front) (drop (length front) text) rest h in
    let is = (bytes_eq-Decides (take (length front) text) front).0 kept.0 in
    sym (take-append-drop (length front) text) ∙ ap (λ (xs : List ℕ). xs ++ drop (length front) text) is ∙ ap (λ (xs : List ℕ). front ++ xs) kept.1

-- as many of the items as have room
cut_of : {A : Type 0} (xs : List A) (room count : ℕ) → count ≡ min (length xs) room → (length (take count xs) ≡ count) × (take room xs ≡ take count xs)
cut_of xs room count e = elim (cases_lt room (length xs)) [
  | inl lt ↦
      let is : count ≡ room = omega arith in
      (length-take-le count xs (omega arith), ap (λ n. take n xs) (sym is))
  | inr ge ↦
      let is : count ≡ length xs = omega arith in
      (length-take-le count xs (omega arith), take_all room xs ge ∙ sym (take_all count xs (omega arith)))
]

-- as many of the items as have room are written behind the first ones of a list, over those that stood there
pub written_behind : {A : Type 0} (kept xs out : List A) (size len count : ℕ) → length kept ≡ size → len ≤ size → count ≡ min (length xs) (size - len) →
    out ≡ take len kept ++ (take count xs ++ drop (len + length (take count xs)) kept) → take (len + count) out ≡ take size (take len kept ++ xs)
written_behind {A} kept xs out size len count long few c e =
    let front : List A = take len kept in
    let fits : length front ≡ len = length-take-le len kept (omega arith) in
    let cut = cut_of xs (size - len) count c in
    let back : List A = drop (len + length (take count xs)) kept in
    let both : length (front ++ take count xs) ≡ len + count = length-append front (take count xs) ∙ ap (λ n. n + length (take count xs)) fits ∙ ap (λ n. len + n) cut.0 in
    let left : take (len + count) out ≡ front ++ take count xs
    = ap (λ ys. take (len + count) ys) (e ∙ sym (append_assoc front (take count xs) back)) ∙ take_at (front ++ take count xs) back (len + count) both in
    let all : size ≡ length front + (size - len) = omega arith in
    let right : take size (front ++ xs) ≡ front ++ take (size - len) xs = ap (λ n. take n (front ++ xs)) all ∙ take-append-add front xs (size - len) in
    left ∙ ap (λ ys. front ++ ys) (sym cut.1) ∙ sym right

-- one item repeated is read at every place, where it also stands for what is past the last
pub get_or-repeated : {A : Type 0} (n i : ℕ) (x : A) → get_or (replicate n x) i x ≡ x
get_or-repeated zero i x = refl
get_or-repeated (suc n) zero x = refl
get_or-repeated (suc n) (suc i) x = get_or-repeated n i x

-- where a value is read, and nothing past the last, the place is there
pub some_within : {A : Type 0} (xs : List (Option A)) (i : ℕ) (x : A) → get_or xs i None ≡ Some x → i < length xs
some_within [] i x e = absurd (let none : None ≡ Some x = e in cc)
some_within (y ∷ xs) zero x e = omega arith
some_within (y ∷ xs) (suc i) x e = let lt = some_within xs i x e in omega arith

-- one number more
pub range_more : (a n : ℕ) → range_with_len a (n + 1) ≡ range_with_len a n ++ (a + n) ∷ []
range_more a zero = ap (λ n. n ∷ []) (sym (add-zero a))
range_more a (suc n) =
    let ih = range_more (a + 1) n in
    let e : (a + 1) + n ≡ a + suc n = omega arith in
    let f : suc n + 1 ≡ suc (n + 1) = omega arith in
    rw (f, ← e) (ap (λ xs. a ∷ xs) ih)

-- the items of one number more
pub flat_more : {A : Type 0} (f : ℕ → List A) (n : ℕ) → flat_map f (range_with_len 0 (n + 1)) ≡ flat_map f (range_with_len 0 n) ++ f n
flat_more f n =
    ap (flat_map f) (range_more 0 n) ∙ flat_map-append f (range_with_len 0 n) ((0 + n) ∷ [])
    ∙ ap (λ k. flat_map f (range_with_len 0 n) ++ (f k ++ [])) (zero-add n) ∙ ap (λ xs. flat_map f (range_with_len 0 n) ++ xs) (append-nil (f n))

-- all items are bytes
abbrev pub AreBytes : List ℕ → Type 0
AreBytes bytes = (i : ℕ) → slice_index bytes i < 256

pub two_bytes : (a b : ℕ) → a < 256 → b < 256 → AreBytes (a ∷ b ∷ [])
two_bytes a b f g zero = f
two_bytes a b f g (suc zero) = g
two_bytes a b f g (suc (suc i)) = omega arith

pub four_bytes : (a b c d : ℕ) → a < 256 → b < 256 → c < 256 → d < 256 → AreBytes (a ∷ b ∷ c ∷ d ∷ [])
four_bytes a b c d f g h k zero = f
four_bytes a b c d f g h k (suc zero) = g
four_bytes a b c d f g h k (suc (suc i)) = two_bytes c d h k i

length-take_few : (n : ℕ) (xs : List ℕ) → length (take n xs) ≤ n
length-take_few zero xs = omega arith
length-take_few (suc n) [] = omega arith
length-take_few (suc n) (x ∷ xs) = let ih = length-take_few n xs in omega arith

-- the first bytes are bytes, and so are those behind them
pub take_bytes : (n : ℕ) (xs : List ℕ) → AreBytes xs → AreBytes (take n xs)
take_bytes n xs b i = elim (cases_lt i n) [
  | inl lt ↦ let e = get_or-take n xs i 0 lt in let h = b i in omega arith
  | inr le ↦ let e = get_or_past (take n xs) i 0 (omega (arith, length-take_few n xs)) in omega arith
]

pub drop_bytes : (n : ℕ) (xs : List ℕ) → AreBytes xs → AreBytes (drop n xs)
drop_bytes n xs b i = let e = get_or-drop n xs i 0 in let h = b (n + i) in omega arith
