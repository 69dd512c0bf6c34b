-- Places: the lines of a table place by place.
use Rattle.std.proofs.Common.{◌≡◌, ℕ, zero, suc, Bool, true, refl, sym, ap, ◌∙◌, List, [], ◌∷◌, length}
use Rattle.std.specs.Prelude.{Some, None, map, slice_get}
use Rattle.std.specs.List.{list_all}
use Rattle.std.proofs.lemmas.Bool.{and_parts, and_from}
use Rattle.plain_lemmas.proofs.Pairs.{Pairs}
use Rattle.socket_lines.specs.declared.line.Line.{Line}
use Rattle.loop_rules.specs.Tables.{Table}
use Rattle.loop_rules.specs.Told.{HasNone, Differ}
use Rattle.socket_table.specs.Finding.{IsAt}
use Rattle.ready_loop.specs.Handling.{SameSockets}

there_by : (ls ms : List Line) (k : ℕ) (x : Line) → map (λ l. l.socket) ms ≡ map (λ l. l.socket) ls → slice_get ls k ≡ Some x → (y : Line) × (slice_get ms k ≡ Some y) × (y.socket ≡ x.socket)
there_by [] ms k x e g = absurd (let n : None ≡ Some x = g in cc)
there_by (l ∷ ls) [] k x e g = absurd (cc)
there_by (l ∷ ls) (m ∷ ms) zero x e g =
    let here : l ≡ x = cc in
    let same : m.socket ≡ l.socket = cc in
    (m, refl, same ∙ ap (λ (z : Line). z.socket) here)
there_by (l ∷ ls) (m ∷ ms) (suc k) x e g = there_by ls ms k x (let rest : map (λ z. z.socket) ms ≡ map (λ z. z.socket) ls = cc in rest) g

-- the line at a place is still there
pub there : (t u : Table) (k : ℕ) (x : Line) → SameSockets t u → slice_get t.lines k ≡ Some x → (y : Line) × (slice_get u.lines k ≡ Some y) × (y.socket ≡ x.socket)
there t u k x e g = there_by t.lines u.lines k x e g

pub at_same : (t u : Table) (k s : ℕ) → SameSockets t u → IsAt t k s → IsAt u k s
at_same t u k s e at = let y = there t u k at.0 e at.1 in (y.0, y.1, y.2 ∙ at.2)

-- lines that have the same sockets place by place
pub sockets_same : (R : Line → Line → Type 0) → ((l m : Line) → R l m → m.socket ≡ l.socket) → (ls ms : List Line) → Pairs R ls ms → map (λ l. l.socket) ms ≡ map (λ l. l.socket) ls
sockets_same R f [] [] a = refl
sockets_same R f [] (m ∷ ms) a = absurd a
sockets_same R f (l ∷ ls) [] a = absurd a
sockets_same R f (l ∷ ls) (m ∷ ms) a = ap (λ (n : ℕ). n ∷ map (λ x. x.socket) ms) (f l m a.0) ∙ ap (λ (ns : List ℕ). l.socket ∷ ns) (sockets_same R f ls ms a.1)

pub sockets_length : (ls ms : List Line) → map (λ l. l.socket) ms ≡ map (λ l. l.socket) ls → length ms ≡ length ls
sockets_length [] [] e = refl
sockets_length [] (m ∷ ms) e = absurd (cc)
sockets_length (l ∷ ls) [] e = absurd (cc)
sockets_length (l ∷ ls) (m ∷ ms) e = ap (λ (n : ℕ). suc n) (sockets_length ls ms (let rest : map (λ z. z.socket) ms ≡ map (λ z. z.socket) ls = cc in rest))

none_at : (n : ℕ) (ls : List Line) (k : ℕ) (x : Line) → HasNone (λ l. l.socket) n ls → slice_get ls k ≡ Some x → x.socket ≡ n → ⊥
none_at n [] k x h g e = (let q : None ≡ Some x = g in cc)
none_at n (l ∷ ls) zero x h g e = h.0 (ap (λ (z : Line). z.socket) (let q : l ≡ x = cc in q) ∙ e)
none_at n (l ∷ ls) (suc k) x h g e = none_at n ls k x h.1 g e

-- at two places stand two sockets
pub two_sockets : (ls : List Line) (k i : ℕ) (x y : Line) → Differ ls → slice_get ls k ≡ Some x → slice_get ls i ≡ Some y → (k ≡ i → ⊥) → x.socket ≡ y.socket → ⊥
two_sockets [] k i x y d g h n e = (let q : None ≡ Some x = g in cc)
two_sockets (l ∷ ls) zero zero x y d g h n e = n refl
two_sockets (l ∷ ls) zero (suc i) x y d g h n e = none_at l.socket ls i y d.0 h (sym e ∙ ap (λ (z : Line). z.socket) (let q : x ≡ l = cc in q))
two_sockets (l ∷ ls) (suc k) zero x y d g h n e = none_at l.socket ls k x d.0 g (e ∙ ap (λ (z : Line). z.socket) (let q : y ≡ l = cc in q))
two_sockets (l ∷ ls) (suc k) (suc i) x y d g h n e = two_sockets ls k i x y d.1 g h (λ q. n (ap (λ (j : ℕ). suc j) q)) e

-- what is so at each place is so of all
pub all_places : {X : Type 0} (p : X → Bool) (xs : List X) → ((k : ℕ) (x : X) → slice_get xs k ≡ Some x → p x ≡ true) → list_all p xs ≡ true
all_places p [] each = refl
all_places p (x ∷ xs) each = and_from (p x) (list_all p xs) (each 0 x refl) (all_places p xs (λ k y g. each (suc k) y g))

-- what is so of all is so at each place
pub place_of_all : {X : Type 0} (p : X → Bool) (xs : List X) (k : ℕ) (x : X) → list_all p xs ≡ true → slice_get xs k ≡ Some x → p x ≡ true
place_of_all p [] k x all g = absurd (let q : None ≡ Some x = g in cc)
place_of_all p (y ∷ ys) zero x all g = ap p (let q : x ≡ y = cc in q) ∙ (and_parts (p y) (list_all p ys) all).0
place_of_all p (y ∷ ys) (suc k) x all g = place_of_all p ys k x (and_parts (p y) (list_all p ys) all).1 g
