-- Accorded: the accord of a turn with the move of one log more, and how many accords are of one move.
use Rattle.std.proofs.Common.{Bool, List, None, Option, Some, [], ap, arith, false, length, refl, replicate, set, subst, suc, sym, true, zero, ℕ, ◌+◌, ◌-◌, ◌^◌, ◌<◌, ◌++◌, ◌∙◌, ◌∷◌, ◌≡◌, ◌≤◌}
use Rattle.std.proofs.lemmas.List.{length-replicate, length-set}
use Rattle.std.specs.Prelude.{get_or, ◌&&◌, if◌then◌else◌, slice_get}
use Rattle.std.specs.Option.{option_map_or}
use Rattle.std.proofs.lemmas.Option.{slice_get_read}
use Rattle.std.specs.List.{list_all}
use Rattle.std.proofs.Math.Bool.{and_assoc}
use Rattle.std.proofs.lemmas.Bool.{and_left, false_from_ne_true, false≢true}
use Rattle.definitions.specs.declared.world.Move.{Move}
use Rattle.definitions.specs.Logs.{move_eq}
use Rattle.definition_laws.proofs.Alike.{move_eq_same, move_eq_true}
use Rattle.agreed_turns.specs.declared.accords.Accord.{Accord}
use Rattle.agreed_turns.specs.declared.accords.Accord.TheVariants.{One, Open, Unlike}
use Rattle.agreed_turns.specs.Accords.{AreCounted, accord_of, note_at, one_in, ones_in, with_move}

-- where one accord becomes another, the sum changes by theirs
pub ones_set : (xs : List Accord) (i : ℕ) (x y : Accord) → slice_get xs i ≡ Some x → ones_in (set xs i y) + one_in x ≡ ones_in xs + one_in y
ones_set [] i x y h = absurd (let none : None ≡ Some x = h in cc)
ones_set (z ∷ zs) zero x y h = let e : z ≡ x = cc in let same = ap one_in e in omega arith
ones_set (z ∷ zs) (suc i) x y h = let ih = ones_set zs i x y h in omega arith

one_few : (a : Accord) → one_in a ≤ 1
one_few Open = omega arith
one_few (One m) = omega arith
one_few Unlike = omega arith

pub ones_few : (xs : List Accord) → ones_in xs ≤ length xs
ones_few [] = omega arith
ones_few (x ∷ xs) = let one = one_few x in let ih = ones_few xs in omega arith

and_last : (b : Bool) → (b && true) ≡ b
and_last true = refl
and_last false = refl

and_none : (b : Bool) → (b && false) ≡ false
and_none true = refl
and_none false = refl

all_append : {X : Type 0} (p : X → Bool) (xs ys : List X) → list_all p (xs ++ ys) ≡ (list_all p xs && list_all p ys)
all_append p [] ys = refl
all_append p (x ∷ xs) ys = ap (λ (b : Bool). p x && b) (all_append p xs ys) ∙ sym (and_assoc (p x) (list_all p xs) (list_all p ys))

-- what the first move gives where the test says that all others are alike
abbrev by_test : Move → Bool → Accord
by_test m b = if b then One m else Unlike

-- the same move stands first once more
twice : (m : Move) (b : Bool) → by_test m (move_eq m m && b) ≡ with_move (by_test m b) m
twice m true = ap (by_test m) (and_last (move_eq m m))
twice m false = ap (by_test m) (and_none (move_eq m m))

-- a move that is unlike the first
unlike : (k m : Move) (b : Bool) → move_eq k m ≡ false → with_move (by_test k b) m ≡ Unlike
unlike k m true e = ap (by_test k) e
unlike k m false e = refl

first_before : (k m : Move) (ks : List Move) (b : Bool) → move_eq k m ≡ b → accord_of (m ∷ k ∷ ks) ≡ with_move (accord_of (k ∷ ks)) m
first_before k m ks true e =
    subst (λ (x : Move). accord_of (m ∷ x ∷ ks) ≡ with_move (accord_of (x ∷ ks)) m) (sym (move_eq_true k m e)) (twice m (list_all (move_eq m) ks))
first_before k m ks false e =
    ap (by_test m) (and_left _ _ other) ∙ sym (unlike k m (list_all (move_eq k) ks) e)
  where
    other : move_eq m k ≡ false
    other = false_from_ne_true (move_eq m k) (λ same. false≢true (sym e ∙ ap (λ (x : Move). move_eq k x) (move_eq_true m k same) ∙ move_eq_same k))

-- with one move more, wherever it stands among the others
pub accord_middle : (front back : List Move) (m : Move) → accord_of (front ++ m ∷ back) ≡ with_move (accord_of (front ++ back)) m
accord_middle [] [] m = refl
accord_middle [] (k ∷ ks) m = first_before k m ks (move_eq k m) refl
accord_middle (x ∷ xs) back m =
    ap (by_test x) (all_append (move_eq x) xs (m ∷ back))
    ∙ go (list_all (move_eq x) xs) (list_all (move_eq x) back)
    ∙ ap (λ (b : Bool). with_move (by_test x b) m) (sym (all_append (move_eq x) xs back))
  where
    go : (a c : Bool) → by_test x (a && (move_eq x m && c)) ≡ with_move (by_test x (a && c)) m
    go true true = ap (by_test x) (and_last (move_eq x m))
    go true false = ap (by_test x) (and_none (move_eq x m))
    go false c = refl

-- one accord of those that are counted becomes another
module _ (xs : List Accord) (agreed i : ℕ) (old new : Accord) (counted : AreCounted xs agreed) (there : slice_get xs i ≡ Some old) where
  pub counted_one : one_in old ≤ agreed
  counted_one = let sum = ones_set xs i old Open there in let ones = counted.ones in omega arith

  pub counted_set : AreCounted (set xs i new) (agreed - one_in old + one_in new)
  counted_set =
      let sum = ones_set xs i old new there in
      let ones = counted.ones in
      let one = counted_one in
      let few = counted.few in
      record {
        ones = omega arith;
        few = rw length-set few;
      }

  pub counted_few : agreed - one_in old + one_in new < 2 ^ 32
  counted_few =
      let s = counted_set in
      let ones = s.ones in
      let few = s.few in
      let less = ones_few (set xs i new) in
      omega arith

none_open : (n : ℕ) → ones_in (replicate n Open) ≡ 0
none_open zero = refl
none_open (suc n) = let ih = none_open n in omega arith

-- so it is by numbers that are theirs
pub counted_written : (xs : List Accord) (agreed i : ℕ) (old new : Accord) (a b : ℕ) → AreCounted xs agreed → slice_get xs i ≡ Some old → a ≡ one_in old → b ≡ one_in new →
    AreCounted (set xs i new) (agreed - a + b)
counted_written xs agreed i old new a b counted there is other =
    let s = counted_set xs agreed i old new counted there in
    let ones = s.ones in
    record { ones = omega arith; few = s.few }

-- of accords that all are open none is of one move
pub counted_open : (n : ℕ) → n < 2 ^ 32 → AreCounted (replicate n Open) 0
counted_open n lt = record { ones = sym (none_open n); few = rw length-replicate lt }

-- what was read of the accords
pub read_at : (xs ys : List Accord) (i : ℕ) (x : Accord) → xs ≡ ys → i < length ys → x ≡ get_or xs i x → slice_get xs i ≡ Some x
read_at xs ys i x same lt read = slice_get_read xs (length ys) i x (sym (ap length same)) lt read

-- the accords with the move noted
pub note_written : (xs ys : List Accord) (i : ℕ) (x y : Accord) (m : Move) → xs ≡ ys → slice_get xs i ≡ Some x → y ≡ with_move x m → set xs i y ≡ note_at ys i m
note_written xs ys i x y m same there made =
    ap (set xs i) made ∙ sym (ap (λ (o : Option Accord). option_map_or (λ a. set xs i (with_move a m)) o xs) there) ∙ ap (λ (zs : List Accord). note_at zs i m) same
