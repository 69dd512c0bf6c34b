-- Writing a text piece by piece.
use Rattle.std.proofs.Common.{◌≡◌, ℕ, ◌+◌, ◌<◌, List, [], ◌∷◌, ◌++◌, length, get_or, drop, refl, sym, ap, ◌∙◌, append_assoc, add-one, drop-cons}
use Rattle.std.specs.Fmt.{decimal}
use Rattle.std.proofs.lemmas.List.{append-nil}
use Rattle.text_lines.specs.Lines.{joined, fields_of}

pub joined-append : (xs ys : List (List ℕ)) → joined (xs ++ ys) ≡ joined xs ++ joined ys
joined-append [] ys = refl
joined-append (x ∷ xs) ys = ap (λ (t : List ℕ). x ++ t) (joined-append xs ys) ∙ sym (append_assoc x (joined xs) (joined ys))

-- one more number of a line
pub field_more : (out new all : List ℕ) (numbers : List ℕ) (i : ℕ) → i < length numbers → new ≡ out ++ 32 ∷ decimal (get_or numbers i 0)
    → out ++ fields_of (drop i numbers) ≡ all → new ++ fields_of (drop (i + 1) numbers) ≡ all
field_more out new all numbers i lt e so_far =
    ap (λ (t : List ℕ). t ++ fields_of (drop (i + 1) numbers)) e
    ∙ append_assoc out (32 ∷ decimal (get_or numbers i 0)) (fields_of (drop (i + 1) numbers))
    ∙ sym (ap (λ (ns : List ℕ). out ++ fields_of ns) (drop-cons numbers i 0 lt ∙ ap (λ (k : ℕ). get_or numbers i 0 ∷ drop k numbers) (sym (add-one i)))) ∙ so_far

-- a line more, behind lines
pub line_more : (o n a : List ℕ) (more : List (List ℕ)) (all : List ℕ) → n ≡ o ++ a → n ++ joined more ≡ all → o ++ joined (a ∷ more) ≡ all
line_more o n a more all e rest = sym (append_assoc o a (joined more)) ∙ ap (λ (t : List ℕ). t ++ joined more) (sym e) ∙ rest

-- lines behind lines
pub lines_more : (o1 o2 o3 : List ℕ) (lines more : List (List ℕ)) → o2 ≡ o1 ++ joined lines → o3 ≡ o2 ++ joined more → o3 ≡ o1 ++ joined (lines ++ more)
lines_more o1 o2 o3 lines more p q =
    q ∙ ap (λ (t : List ℕ). t ++ joined more) p ∙ append_assoc o1 (joined lines) (joined more) ∙ ap (λ (t : List ℕ). o1 ++ t) (sym (joined-append lines more))

-- a line alone
pub line_alone : (o n a : List ℕ) → n ≡ o ++ a → n ≡ o ++ joined (a ∷ [])
line_alone o n a e = e ∙ ap (λ (t : List ℕ). o ++ t) (sym (append-nil a))
