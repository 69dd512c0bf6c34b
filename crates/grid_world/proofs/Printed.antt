-- Writing a text piece by piece.
use Rattle.std.proofs.Common.{◌≡◌, ℕ, List, [], ◌∷◌, ◌++◌, sym, ap, ◌∙◌, append_assoc}
use Rattle.std.proofs.lemmas.List.{append-nil}
use Rattle.text_lines.specs.Lines.{joined, line_of}
use Rattle.text_lines.proofs.Printed.{joined-append, line_alone, line_more, lines_more}

pub head_more : (o1 o2 o3 o4 o5 o6 o7 o8 a b c d e f : List ℕ) (ahead : List (List ℕ)) → o2 ≡ o1 ++ a → o3 ≡ o2 ++ b → o4 ≡ o3 ++ c → o5 ≡ o4 ++ d → o6 ≡ o5 ++ e → o7 ≡ o6 ++ joined ahead → o8 ≡ o7 ++ f
    → o8 ≡ o1 ++ joined (a ∷ b ∷ c ∷ d ∷ e ∷ (ahead ++ f ∷ []))
head_more o1 o2 o3 o4 o5 o6 o7 o8 a b c d e f ahead p q r s t u v =
    let last : List (List ℕ) = ahead ++ f ∷ [] in
    sym (line_more o1 o2 a (b ∷ c ∷ d ∷ e ∷ last) o8 p
    (line_more o2 o3 b (c ∷ d ∷ e ∷ last) o8 q
    (line_more o3 o4 c (d ∷ e ∷ last) o8 r
    (line_more o4 o5 d (e ∷ last) o8 s
    (line_more o5 o6 e last o8 t
    (sym (lines_more o6 o7 o8 ahead (f ∷ []) u (line_alone o7 o8 f v))))))))

pub all_more : (o1 o2 o3 o4 : List ℕ) (head players walls : List (List ℕ)) (end : List ℕ) → o1 ≡ joined head → o2 ≡ o1 ++ joined players → o3 ≡ o2 ++ joined walls → o4 ≡ o3 ++ end
    → o4 ≡ joined (head ++ (players ++ (walls ++ (end ∷ []))))
all_more o1 o2 o3 o4 head players walls end p q r s =
    s ∙ ap (λ (t : List ℕ). t ++ end) (r ∙ ap (λ (t : List ℕ). t ++ joined walls) (q ∙ ap (λ (t : List ℕ). t ++ joined players) p))
    ∙ append_assoc (joined head ++ joined players) (joined walls) end ∙ append_assoc (joined head) (joined players) (joined walls ++ end)
    ∙ sym (joined-append head (players ++ (walls ++ (end ∷ []))) ∙ ap (λ (t : List ℕ). joined head ++ t) (joined-append players (walls ++ (end ∷ []))
    ∙ ap (λ (t : List ℕ). joined players ++ t) (joined-append walls (end ∷ []) ∙ ap (λ (t : List ℕ). joined walls ++ t) (append-nil end))))

-- a line that was written, by other names of its numbers
pub line_one : (old new name : List ℕ) (a x : ℕ) → new ≡ old ++ line_of name (a ∷ []) → a ≡ x → new ≡ old ++ line_of name (x ∷ [])
line_one old new name a x e p = e ∙ ap (λ (n : ℕ). old ++ line_of name (n ∷ [])) p

pub line_two : (old new name : List ℕ) (a b x y : ℕ) → new ≡ old ++ line_of name (a ∷ b ∷ []) → a ≡ x → b ≡ y → new ≡ old ++ line_of name (x ∷ y ∷ [])
line_two old new name a b x y e p q = e ∙ ap (λ (n : ℕ). old ++ line_of name (n ∷ b ∷ [])) p ∙ ap (λ (n : ℕ). old ++ line_of name (x ∷ n ∷ [])) q

pub line_three : (old new name : List ℕ) (a b c x y z : ℕ) → new ≡ old ++ line_of name (a ∷ b ∷ c ∷ []) → a ≡ x → b ≡ y → c ≡ z → new ≡ old ++ line_of name (x ∷ y ∷ z ∷ [])
line_three old new name a b c x y z e p q r =
    e ∙ ap (λ (n : ℕ). old ++ line_of name (n ∷ b ∷ c ∷ [])) p ∙ ap (λ (n : ℕ). old ++ line_of name (x ∷ n ∷ c ∷ [])) q ∙ ap (λ (n : ℕ). old ++ line_of name (x ∷ y ∷ n ∷ [])) r
