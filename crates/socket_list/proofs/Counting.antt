-- Counting: how many lines there are of a kind, where some are changed, added or dropped.
use Rattle.std.proofs.Common.{◌≡◌, suc, ◌+◌, ◌≤◌, Bool, true, false, refl, ap, ◌∙◌, List, [], ◌∷◌, ◌++◌, arith, length}
use Rattle.std.specs.Prelude.{◌||◌, cond, filter, if◌then◌else◌}
use Rattle.std.specs.List.{count_by}
use Rattle.std.proofs.lemmas.Bool.{false≢true}
use Rattle.definitions.specs.Lists.{EachIs}
use Rattle.socket_lines.specs.declared.line.Line.{Line}
use Rattle.loop_rules.proofs.Alike.{Same, Alike}
use Rattle.socket_list.proofs.Pairs.{count_cons}

-- where what is counted after the change was counted before
pub count_alike : (p : Line → Bool) → ((l m : Line) → Same l m → p m ≡ true → p l ≡ true) → (ls ms : List Line) → Alike ls ms → count_by p ms ≤ count_by p ls
count_alike p k [] [] a = omega arith
count_alike p k [] (m ∷ ms) a = absurd a
count_alike p k (l ∷ ls) [] a = absurd a
count_alike p k (l ∷ ls) (m ∷ ms) a =
    let here = one (p l) (p m) (k l m a.0) in
    let more = count_alike p k ls ms a.1 in
    let old = count_cons p l ls in
    let new = count_cons p m ms in
    omega (arith, here, more, old, new)
  where
    one : (b c : Bool) → (c ≡ true → b ≡ true) → cond c 1 0 ≤ cond b 1 0
    one true true e = omega arith
    one true false e = omega arith
    one false true e = absurd (false≢true (e refl))
    one false false e = omega arith

pub length_alike : (ls ms : List Line) → Alike ls ms → length ms ≡ length ls
length_alike [] [] a = refl
length_alike [] (m ∷ ms) a = absurd a
length_alike (l ∷ ls) [] a = absurd a
length_alike (l ∷ ls) (m ∷ ms) a = ap suc (length_alike ls ms a.1)

-- ---- one more at the end

pub length_more : {X : Type 0} (xs : List X) (x : X) → length (xs ++ x ∷ []) ≡ length xs + 1
length_more [] x = omega arith
length_more (y ∷ ys) x = let r = length_more ys x in omega (arith, r)

pub count_last : {X : Type 0} (p : X → Bool) (xs : List X) (x : X) → count_by p (xs ++ x ∷ []) ≡ count_by p xs + cond (p x) 1 0
count_last p [] x = count_cons p x [] ∙ omega arith
count_last p (y ∷ ys) x =
    let a = count_cons p y (ys ++ x ∷ []) in
    let b = count_cons p y ys in
    let r = count_last p ys x in
    omega (arith, a, b, r)

-- ---- closed ones go

pub count_open : (p : Line → Bool) (ls : List Line) → count_by p (filter (λ l. l.is_open) ls) ≤ count_by p ls
count_open p [] = omega arith
count_open p (l ∷ ls) = go l.is_open (count_open p ls)
  where
    go : (b : Bool) → count_by p (filter (λ m. m.is_open) ls) ≤ count_by p ls → count_by p (if b then l ∷ filter (λ m. m.is_open) ls else filter (λ m. m.is_open) ls) ≤ count_by p (l ∷ ls)
    go true r =
        let a = count_cons p l (filter (λ m. m.is_open) ls) in
        let b = count_cons p l ls in
        omega (arith, a, b, r)
    go false r = let b = count_cons p l ls in omega (arith, b, r)

-- ---- two kinds

bool_le : (a b c : Bool) → (a ≡ true → (b || c) ≡ true) → cond a 1 0 ≤ cond b 1 0 + cond c 1 0
bool_le false true true k = omega arith
bool_le false true false k = omega arith
bool_le false false true k = omega arith
bool_le false false false k = omega arith
bool_le true true true k = omega arith
bool_le true true false k = omega arith
bool_le true false true k = omega arith
bool_le true false false k = absurd (false≢true (k refl))

-- what is counted is counted as one of two
pub count_two : (p q r : Line → Bool) (ls : List Line) → EachIs (λ l. p l ≡ true → (q l || r l) ≡ true) ls → count_by p ls ≤ count_by q ls + count_by r ls
count_two p q r [] e = omega arith
count_two p q r (l ∷ ls) e =
    let a = count_cons p l ls in
    let b = count_cons q l ls in
    let c = count_cons r l ls in
    let here = bool_le (p l) (q l) (r l) e.0 in
    let more = count_two p q r ls e.1 in
    omega (arith, a, b, c, here, more)
