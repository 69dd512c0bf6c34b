-- Steps: what a step of reading that did not fail gave, whatever the reader's faults are.
use Rattle.std.proofs.Common.{◌≡◌, ◌⊎◌, inl, inr, ℕ, Bool, true, false, List, [], ◌∷◌, ◌++◌, Option, Some, None, Result, Ok, Err, refl, sym, ap, subst, ◌∙◌, append_assoc}
use Rattle.text_lines.specs.Reading.{◌>>=◌, ends_at, formed, keeps, line_at, or_fault}

pub bind_ok : {E A B : Type 0} (r : Result A E) (f : A → Result B E) (y : B) → (r >>= f) ≡ Ok y → (x : A) × (r ≡ Ok x) × (f x ≡ Ok y)
bind_ok (Ok x) f y e = (x, refl, e)
bind_ok (Err d) f y e = absurd cc

pub keeps_ok : {E A : Type 0} (d : E) (holds : Bool) (x y : A) → keeps d holds x ≡ Ok y → (holds ≡ true) × (x ≡ y)
keeps_ok d true x y e = (refl, cc)
keeps_ok d false x y e = absurd cc

-- a rule that was kept leaves the value
pub kept_ok : {E A B : Type 0} (d : E) (holds : Bool) (x : A) (f : A → Result B E) (y : B) → (keeps d holds x >>= f) ≡ Ok y → (holds ≡ true) × (f x ≡ Ok y)
kept_ok d true x f y e = (refl, e)
kept_ok d false x f y e = absurd cc

abbrev done : {E A : Type 0} → A → Result A E
done x = Ok x

pub ok_is : {E A : Type 0} (x y : A) → done {E = E} x ≡ done y → x ≡ y
ok_is x y e = cc

pub or_fault_ok : {E A : Type 0} (d : E) (o : Option A) (x : A) → or_fault d o ≡ Ok x → o ≡ Some x
or_fault_ok d None x e = absurd cc
or_fault_ok {E} {A} d (Some y) x e = ap (λ (z : A). Some z) (ok_is {E = E} y x e)

formed_ok : {E A : Type 0} (d : E) (said : Option A) (lines : List (List ℕ)) (x : A) (rest : List (List ℕ)) → formed d said lines ≡ Ok (x, rest) → (said ≡ Some x) × (lines ≡ rest)
formed_ok d None lines x rest e = absurd cc
formed_ok {E} {A} d (Some y) lines x rest e =
    let same = ok_is {E = E} (y, lines) (x, rest) e in
    (ap (λ (w : A × List (List ℕ)). Some w.0) same, ap (λ (w : A × List (List ℕ)). w.1) same)

-- a line that was read has its form
pub line_at_ok : {E A : Type 0} (d : E) (read : List ℕ → Option A) (lines : List (List ℕ)) (x : A) (rest : List (List ℕ))
    → line_at d read lines ≡ Ok (x, rest) → (line : List ℕ) × (lines ≡ line ∷ rest) × (read line ≡ Some x)
line_at_ok d read [] x rest e = absurd cc
line_at_ok d read (line ∷ lines) x rest e =
    let parts = formed_ok d (read line) lines x rest e in
    (line, cc (parts.1), parts.0)

-- a form that is read only of lines that are spelled so
abbrev pub IsSpelled : {A : Type 0} → (read : List ℕ → Option A) → (spells : A → List ℕ) → Type 0
IsSpelled {A} read spells = (line : List ℕ) (x : A) → read line ≡ Some x → line ≡ spells x

-- a line that was read is spelled so
pub line_at_spelled : {E A : Type 0} (d : E) (read : List ℕ → Option A) (spells : A → List ℕ) (lines : List (List ℕ)) (x : A × List (List ℕ)) → IsSpelled read spells
    → line_at d read lines ≡ Ok x → lines ≡ spells x.0 ∷ x.1
line_at_spelled d read spells lines x spelled e =
    let line = line_at_ok d read lines x.0 x.1 e in
    line.1 ∙ ap (λ (l : List ℕ). l ∷ x.1) (spelled line.0 x.0 line.2)

-- a line that was read: how it is spelled, and the rule that it keeps
pub record TakesLine {A : Type 0} (spells : A → List ℕ) (test : A → Bool) (lines : List (List ℕ)) (x : A × List (List ℕ)) : Type 0 where
  pub spelled : lines ≡ spells x.0 ∷ x.1
  pub kept : test x.0 ≡ true

pub takes_line : {E A : Type 0} (d e : E) (read : List ℕ → Option A) (spells : A → List ℕ) (test : A → Bool) (lines : List (List ℕ)) (x : A × List (List ℕ)) → IsSpelled read spells
    → (line_at d read lines >>= λ line. keeps e (test line.0) line) ≡ Ok x → TakesLine spells test lines x
takes_line {E} {A} d e read spells test lines x spelled is =
    let a = bind_ok (line_at d read lines) _ x is in
    let kept = keeps_ok e (test a.0.0) a.0 x a.2 in
    subst (λ (y : A × List (List ℕ)). TakesLine spells test lines y) {x = a.0} kept.1 (record { spelled = line_at_spelled d read spells lines a.0 spelled a.1; kept = kept.0 })

-- a line, and the lines behind it
pub behind_line : (lines rest more : List (List ℕ)) (line : List ℕ) → lines ≡ line ∷ rest → rest ≡ more → lines ≡ line ∷ more
behind_line lines rest more line first others = first ∙ ap (λ (ls : List (List ℕ)). line ∷ ls) others

-- behind the last line nothing stands
pub none_behind : {E A : Type 0} (d : E) (lines : List (List ℕ)) (xs : List A) → ends_at d lines ≡ Ok xs → (lines ≡ []) × ([] ≡ xs)
none_behind {E} d [] xs e = (refl, ok_is {E = E} [] xs e)
none_behind d (line ∷ lines) xs e = absurd cc

-- ---- reading one after the other, as a loop does

-- what was read before, and what is still read
abbrev pub with_front : {E A : Type 0} → List A → Result (List A) E → Result (List A) E
with_front front read = read >>= λ xs. Ok (front ++ xs)

pub with_front-more : {E A : Type 0} (front : List A) (x : A) (read : Result (List A) E) → with_front front (read >>= λ xs. Ok (x ∷ xs)) ≡ with_front (front ++ x ∷ []) read
with_front-more {E} {A} front x (Ok xs) = ap (λ (ys : List A). Ok ys) (simp append_assoc)
with_front-more front x (Err e) = refl

-- ---- a step of reading that failed

abbrev failed : {E B : Type 0} → E → Result B E
failed e = Err e

err_is : {E B : Type 0} (d e : E) → failed {E = E} {B = B} d ≡ failed {E = E} {B = B} e → d ≡ e
err_is d e h = cc

-- the first or the second of two steps failed
pub bind_err : {E A B : Type 0} (r : Result A E) (f : A → Result B E) (e : E) → (r >>= f) ≡ Err e → (r ≡ Err e) ⊎ ((x : A) × (r ≡ Ok x) × (f x ≡ Err e))
bind_err (Ok x) f e h = inr (x, refl, h)
bind_err {E} {A} {B} (Err d) f e h = let same : d ≡ e = err_is {E = E} {B = B} d e h in inl (ap (λ (c : E). Err c) same)

-- the line's own fault is answered, and the line doesn't have the form
pub line_at_err : {E A : Type 0} (d : E) (read : List ℕ → Option A) (lines : List (List ℕ)) (e : E) → line_at d read lines ≡ Err e
    → (d ≡ e) × ((line : List ℕ) (others : List (List ℕ)) → lines ≡ line ∷ others → read line ≡ None)
line_at_err {E} {A} d read [] e h = (err_is {E = E} {B = A × List (List ℕ)} d e h, λ line others same. absurd (cc))
line_at_err {E} {A} d read (first ∷ behind) e h = go (read first) refl h
  where
    go : (o : Option A) → read first ≡ o → formed d o behind ≡ Err e → (d ≡ e) × ((line : List ℕ) (others : List (List ℕ)) → first ∷ behind ≡ line ∷ others → read line ≡ None)
    go None none h = (err_is {E = E} {B = A × List (List ℕ)} d e h, λ line others same. (let head : first ≡ line = cc in ap read (sym head) ∙ none))
    go (Some x) some h = absurd (cc)
