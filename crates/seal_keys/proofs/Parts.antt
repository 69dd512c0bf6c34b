-- Parts: byte strings of several parts, part by part.
use Rattle.std.proofs.Common.{◌≡◌, ℕ, zero, suc, ◌+◌, ◌*◌, ◌<◌, ◌≤◌, Bool, true, false, List, [], ◌++◌, length, take, drop, refl, sym, ap, ◌∙◌, inl, inr, subst, arith, add-one, length-append, append_assoc}
use Rattle.std.proofs.lemmas.List.{append-nil, take_at, take_all, drop_at, length-take-le, length-drop, drop-drop, drop_all}
use Rattle.std.specs.Prelude.{bytes_eq}
use Rattle.std.proofs.lemmas.Bool.{cases_lt, false_from_ne_true, false≢true}
use Rattle.std.proofs.lemmas.Slice.Eq.{bytes_eq-Decides}
use Rattle.definitions.proofs.Fronts.{front_same}
use borrow.Rule.Slice.PartMut.{put_mid}
use Rattle.byte_fields.specs.Fields.{overwritten}
use Rattle.seal_keys.specs.Parts.{joined_below, part_of}

-- bytes written behind others
pub put_there : (xs ys zs : List ℕ) (n k : ℕ) → length xs ≡ n → put_mid n k (xs ++ zs) ys ≡ xs ++ (ys ++ drop k zs)
put_there xs ys zs n k l =
    ap (λ (f : List ℕ). f ++ (ys ++ drop k (drop n (xs ++ zs)))) (take_at xs zs n l) ∙ ap (λ (r : List ℕ). xs ++ (ys ++ drop k r)) (drop_at xs zs n l)

pub length-put_two : (xs ys old : List ℕ) (n m : ℕ) → length xs ≡ n → length ys ≡ m → n + m ≤ length old → length (put_mid n m (xs ++ drop n old) ys) ≡ length old
length-put_two xs ys old n m lx ly room =
    let rest : List ℕ = drop m (drop n old) in
    let whole = ap length (put_there xs ys (drop n old) n m lx) in
    omega (arith, whole, length-append xs (ys ++ rest), length-append ys rest, length-drop m (drop n old), length-drop n old)

-- three parts, one after another
pub put_three : (xs ys zs old : List ℕ) (n m k : ℕ) → length xs ≡ n → length ys ≡ m → length old ≤ n + m + k →
    put_mid (n + m) k (put_mid n m (xs ++ drop n old) ys) zs ≡ xs ++ (ys ++ zs)
put_three xs ys zs old n m k lx ly few =
    let rest : List ℕ = drop m (drop n old) in
    let one = put_there xs ys (drop n old) n m lx in
    let both : length (xs ++ ys) ≡ n + m = omega (arith, length-append xs ys) in
    let none : drop k rest ≡ [] = drop_all k rest (omega (arith, length-drop m (drop n old), length-drop n old)) in
    ap (λ (b : List ℕ). put_mid (n + m) k b zs) (one ∙ sym (append_assoc xs ys rest)) ∙ put_there (xs ++ ys) zs rest (n + m) k both
    ∙ ap (λ (r : List ℕ). (xs ++ ys) ++ (zs ++ r)) none ∙ ap (λ (r : List ℕ). (xs ++ ys) ++ r) (append-nil zs) ∙ append_assoc xs ys zs

-- bytes written behind others, where the rest is written over whole
pub put_behind : (xs ys zs : List ℕ) (n k : ℕ) → length xs ≡ n → drop k zs ≡ [] → put_mid n k (xs ++ zs) ys ≡ xs ++ ys
put_behind xs ys zs n k l e =
    ap (λ (f : List ℕ). f ++ (ys ++ drop k (drop n (xs ++ zs)))) (take_at xs zs n l) ∙ ap (λ (r : List ℕ). xs ++ (ys ++ drop k r)) (drop_at xs zs n l)
    ∙ ap (λ (r : List ℕ). xs ++ (ys ++ r)) e ∙ ap (λ (r : List ℕ). xs ++ r) (append-nil ys)

pub joined_below-none : (f : ℕ → List ℕ) → joined_below f 0 ≡ []
unfolding joined_below
joined_below-none f = refl

pub joined_below-more : (f : ℕ → List ℕ) (n : ℕ) → joined_below f (n + 1) ≡ joined_below f n ++ f n
unfolding joined_below
joined_below-more f n = rw add-one refl

-- one part more is written behind those that stand there
pub written_more : (f : ℕ → List ℕ) (out part : List ℕ) (n : ℕ) → take (32 * n) out ≡ joined_below f n → part ≡ f n → length part ≡ 32 → 32 * n + 32 ≤ length out →
    take (32 * (n + 1)) (overwritten out (32 * n) part) ≡ joined_below f (n + 1)
written_more f out part n done is long room =
    let front : length (take (32 * n) out) ≡ 32 * n = length-take-le (32 * n) out (omega arith) in
    let rest : List ℕ = drop (32 * n + length part) out in
    let both : length (take (32 * n) out ++ part) ≡ 32 * (n + 1) = omega (arith, length-append (take (32 * n) out) part) in
    ap (take (32 * (n + 1))) (sym (append_assoc (take (32 * n) out) part rest)) ∙ take_at (take (32 * n) out ++ part) rest (32 * (n + 1)) both
    ∙ ap (λ (xs : List ℕ). xs ++ part) done ∙ ap (λ (p : List ℕ). joined_below f n ++ p) is ∙ sym (joined_below-more f n)

-- all parts are written
pub written_all : (f : ℕ → List ℕ) (out : List ℕ) (n : ℕ) → take (32 * n) out ≡ joined_below f n → length out ≡ 32 * n → out ≡ joined_below f n
written_all f out n done long = sym (take_all (32 * n) out (omega arith)) ∙ done

-- how long parts of one length are together
length-joined_under : (f : ℕ → List ℕ) (n w : ℕ) → ((i : ℕ) → i < n → length (f i) ≡ w) → length (joined_below f n) ≡ n * w
unfolding joined_below
length-joined_under f zero w each = let none : length (joined_below f zero) ≡ 0 = refl in omega arith
length-joined_under f (suc n) w each =
    let before = length-joined_under f n w (λ i lt. each i (omega arith)) in
    let last = each n (omega arith) in
    let more : suc n * w ≡ n * w + w = omega arith in
    length-append (joined_below f n) (f n) ∙ ap (λ (k : ℕ). k + length (f n)) before ∙ ap (λ (k : ℕ). n * w + k) last ∙ sym more

pub length-joined_below : (f : ℕ → List ℕ) (n w : ℕ) → ((i : ℕ) → length (f i) ≡ w) → length (joined_below f n) ≡ n * w
length-joined_below f n w each = length-joined_under f n w (λ i lt. each i)

-- the part of a number, whatever follows the last one
pub part_of-joined_below : (f : ℕ → List ℕ) (n i : ℕ) (rest : List ℕ) → ((i : ℕ) → length (f i) ≡ 32) → i < n → part_of (joined_below f n ++ rest) i ≡ f i
unfolding joined_below
part_of-joined_below f zero i rest each lt = absurd (omega arith)
part_of-joined_below f (suc n) i rest each lt =
    ap (λ (b : List ℕ). part_of b i) (append_assoc (joined_below f n) (f n) rest) ∙ elim (cases_lt i n) [
      | inl less ↦ part_of-joined_below f n i (f n ++ rest) each less
      | inr here ↦
          let is : n ≡ i = omega arith in
          let long : length (joined_below f n) ≡ 32 * i = omega (arith, length-joined_below f n 32 each) in
          ap (take 32) (drop_at (joined_below f n) (f n ++ rest) (32 * i) long) ∙ take_at (f n) rest 32 (each n) ∙ ap f is
    ]

-- the part of a number behind so many parts
pub part_of_behind : (xs rest : List ℕ) (n i : ℕ) → length xs ≡ 32 * n → part_of (xs ++ rest) (n + i) ≡ part_of rest i
part_of_behind xs rest n i long =
    let at : 32 * (n + i) ≡ 32 * n + 32 * i = omega arith in
    ap (take 32) (ap (λ (k : ℕ). drop k (xs ++ rest)) at ∙ sym (drop-drop (32 * i) (32 * n) (xs ++ rest)) ∙ ap (drop (32 * i)) (drop_at xs rest (32 * n) long))

-- the same parts
pub same_joined : (f g : ℕ → List ℕ) (n : ℕ) → ((i : ℕ) → i < n → f i ≡ g i) → joined_below f n ≡ joined_below g n
unfolding joined_below
same_joined f g zero same = refl
same_joined f g (suc n) same =
    ap (λ (b : List ℕ). b ++ f n) (same_joined f g n (λ i lt. same i (omega arith))) ∙ ap (λ (p : List ℕ). joined_below g n ++ p) (same n (omega arith))

pub length-part_of : (s : List ℕ) (j : ℕ) → 32 * j + 32 ≤ length s → length (part_of s j) ≡ 32
length-part_of s j room = length-take-le 32 (drop (32 * j) s) (omega (arith, length-drop (32 * j) s))

-- the same bytes have the same parts
pub parts_same : (f g : ℕ → List ℕ) (n w i : ℕ) → ((i : ℕ) → i < n → length (f i) ≡ w) → ((i : ℕ) → i < n → length (g i) ≡ w) →
    joined_below f n ≡ joined_below g n → i < n → f i ≡ g i
unfolding joined_below
parts_same f g zero w i long other same lt = absurd (omega arith)
parts_same f g (suc n) w i long other same lt =
    let front = length-joined_under f n w (λ j less. long j (omega arith)) in
    let its = length-joined_under g n w (λ j less. other j (omega arith)) in
    let both = front_same (joined_below f n) (f n) (joined_below g n) (g n) (front ∙ sym its) same in
    elim (cases_lt i n) [
      | inl less ↦ parts_same f g n w i (λ j l. long j (omega arith)) (λ j l. other j (omega arith)) both.0 less
      | inr here ↦
          let is : n ≡ i = omega arith in
          subst (λ (j : ℕ). f j ≡ g j) is both.1
    ]

-- bytes with different parts are different
pub differ_at : (f g : ℕ → List ℕ) (n w i : ℕ) → ((i : ℕ) → i < n → length (f i) ≡ w) → ((i : ℕ) → i < n → length (g i) ≡ w) →
    bytes_eq (f i) (g i) ≡ false → i < n → bytes_eq (joined_below f n) (joined_below g n) ≡ false
differ_at f g n w i long other differ lt =
    false_from_ne_true (bytes_eq (joined_below f n) (joined_below g n)) (λ same.
    let parts = parts_same f g n w i long other ((bytes_eq-Decides (joined_below f n) (joined_below g n)).0 same) lt in
    false≢true (sym differ ∙ (bytes_eq-Decides (f i) (g i)).1 parts))

pub same_more : (f g : ℕ → List ℕ) (n : ℕ) → joined_below f n ≡ joined_below g n → bytes_eq (f n) (g n) ≡ true → joined_below f (n + 1) ≡ joined_below g (n + 1)
same_more f g n before same =
    joined_below-more f n ∙ ap (λ (b : List ℕ). b ++ f n) before ∙ ap (λ (p : List ℕ). joined_below g n ++ p) ((bytes_eq-Decides (f n) (g n)).0 same) ∙ sym (joined_below-more g n)

pub same_bytes : (a b : List ℕ) → a ≡ b → bytes_eq a b ≡ true
same_bytes a b same = (bytes_eq-Decides a b).1 same
