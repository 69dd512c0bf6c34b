-- The first line of a text that begins with bytes that are no LF.
use Rattle.std.proofs.Common.{◌≡◌, ◌≢◌, ℕ, ◌<◌, List, [], ◌∷◌, ◌++◌, length, suc, refl, ap, sym, ◌∙◌, arith, append_assoc, append-nil}
use Rattle.std.proofs.lemmas.Grind.{common_steps}
use Rattle.text_lines.specs.Lines.{onto_first}
use Rattle.line_io.specs.Lines.{lines_of, IsOpen, StartsLonger}

pub IsOpen-push : (p : List ℕ) (b : ℕ) → IsOpen p → b ≢ 10 → IsOpen (p ++ b ∷ [])
IsOpen-push [] b h n = (n, tt)
IsOpen-push (c ∷ cs) b h n = (h.0, IsOpen-push cs b h.1 n)

-- a byte that is no LF
no_lf : (b : ℕ) (bs : List ℕ) → b ≢ 10 → lines_of (b ∷ bs) ≡ onto_first b (lines_of bs)
no_lf b bs h = grind (arith, common_steps)

pub first_whole : (p rest : List ℕ) → IsOpen p → lines_of (p ++ 10 ∷ rest) ≡ p ∷ lines_of rest
first_whole [] rest h = refl
first_whole (b ∷ bs) rest h = no_lf b (bs ++ 10 ∷ rest) h.0 ∙ ap (onto_first b) (first_whole bs rest h.1)

open_tail : (b : ℕ) (p : List ℕ) → b ≢ 10 → IsOpen p → lines_of (b ∷ p) ≡ (b ∷ p) ∷ []
open_tail b [] h t = no_lf b [] h
open_tail b (c ∷ p) h t = no_lf b (c ∷ p) h ∙ ap (onto_first b) (open_tail c p t.0 t.1)

-- the last line without an LF
pub last_open : (p : List ℕ) → 0 < length p → IsOpen p → lines_of p ≡ p ∷ []
last_open [] l h = absurd (omega arith)
last_open (b ∷ p) l h = open_tail b p h.0 h.1

onto_first-longer : (n b : ℕ) (ls : List (List ℕ)) → StartsLonger n ls → StartsLonger (suc n) (onto_first b ls)
onto_first-longer n b [] h = absurd h
onto_first-longer n b (l ∷ ls) h = omega (arith, h)

onto_first-some : (b : ℕ) (ls : List (List ℕ)) → StartsLonger 0 (onto_first b ls)
onto_first-some b [] = omega arith
onto_first-some b (l ∷ ls) = omega arith

pub starts_longer : (p : List ℕ) (b : ℕ) (rest : List ℕ) → IsOpen p → b ≢ 10 → StartsLonger (length p) (lines_of (p ++ b ∷ rest))
starts_longer [] b rest h n = rw (no_lf b rest n) (onto_first-some b (lines_of rest))
starts_longer (c ∷ cs) b rest h n = rw (no_lf c (cs ++ b ∷ rest) h.0) (onto_first-longer (length cs) c (lines_of (cs ++ b ∷ rest)) (starts_longer cs b rest h.1 n))

-- The ways on, where `p` is the line so far: what was read first and what was read by now is `p` and what is held, and one byte
-- more or none is read.
pub through : (first read held more p next all : List ℕ) → first ++ read ≡ p ++ held → held ++ more ≡ next → all ≡ read ++ more → first ++ all ≡ p ++ next
through first read held more p next all e f a =
    ap (λ x. first ++ x) a ∙ sym (append_assoc first read more) ∙ ap (λ x. x ++ more) e ∙ append_assoc p held more ∙ ap (λ x. p ++ x) f

pub through_none : (first read held more p all : List ℕ) → first ++ read ≡ p ++ held → held ++ more ≡ [] → all ≡ read ++ more → first ++ all ≡ p
through_none first read held more p all e f a = through first read held more p [] all e f a ∙ append-nil p

-- one byte too many
pub overlong : (bytes p rest now : List ℕ) (b n : ℕ) → bytes ≡ p ++ b ∷ now → b ≢ 10 → length p ≡ n → IsOpen p → StartsLonger n (lines_of (bytes ++ rest))
overlong bytes p rest now b n e t l h = rw (e, append_assoc p (b ∷ now) rest, ← l) (starts_longer p b (now ++ rest) h t)

-- one byte more
pub onward : (bytes p now line : List ℕ) (b : ℕ) → bytes ≡ p ++ b ∷ now → line ≡ p ++ b ∷ [] → bytes ≡ line ++ now
onward bytes p now line b e l = e ∙ sym (append_assoc p (b ∷ []) now) ∙ ap (λ u. u ++ now) (sym l)
