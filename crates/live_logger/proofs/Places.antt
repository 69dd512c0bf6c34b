-- Places: a line at its place, before a change and after it.
use Rattle.std.proofs.Common.{◌≡◌, ℕ, zero, suc, ◌<◌, refl, sym, ap, subst, ◌∙◌, List, [], ◌∷◌, length, slice_set}
use Rattle.std.specs.Prelude.{Some, slice_get}
use Rattle.std.proofs.lemmas.Option.{slice_get_within}
use Rattle.socket_lines.specs.declared.line.Line.{Line}
use Rattle.loop_rules.specs.Told.{Differ}
use Rattle.loop_rules.proofs.Alike.{Same, Alike}
use Rattle.socket_list.proofs.Keys.{put_at, found_at}
use Rattle.log_books.proofs.Lists.{set_beside, set_here}
use Rattle.socket_list.specs.Sockets.{Sockets, IsAt, at_line, line_of}

-- ---- lists that are alike

pub alike_on : (ls ms : List Line) (k : ℕ) (l : Line) → Alike ls ms → slice_get ls k ≡ Some l → (m : Line) × (slice_get ms k ≡ Some m) × Same l m
alike_on [] ms k l a g = absurd (cc)
alike_on (x ∷ ls) [] k l a g = absurd a
alike_on (x ∷ ls) (m ∷ ms) zero l a g = (m, refl, subst (λ (y : Line). Same y m) (let q : x ≡ l = cc in q) a.0)
alike_on (x ∷ ls) (m ∷ ms) (suc k) l a g = alike_on ls ms k l a.1 g

pub alike_back : (ls ms : List Line) (k : ℕ) (m : Line) → Alike ls ms → slice_get ms k ≡ Some m → (l : Line) × (slice_get ls k ≡ Some l) × Same l m
alike_back ls [] k m a g = absurd (cc)
alike_back [] (y ∷ ms) k m a g = absurd a
alike_back (x ∷ ls) (y ∷ ms) zero m a g = (x, refl, subst (λ (z : Line). Same x z) (let q : y ≡ m = cc in q) a.0)
alike_back (x ∷ ls) (y ∷ ms) (suc k) m a g = alike_back ls ms k m a.1 g

pub at_alike : (t u : Sockets) (k s : ℕ) → Alike t.lines u.lines → IsAt t k s → IsAt u k s
at_alike t u k s a w = let m = alike_on t.lines u.lines k w.0 a w.1 in (m.0, m.1, m.2.socket ∙ w.2)

pub at_lt : (t : Sockets) (k s : ℕ) → IsAt t k s → k < length t.lines
at_lt t k s w = slice_get_within t.lines k w.0 w.1

-- ---- one line changes

pub at_set : (t : Sockets) (k s : ℕ) (f : Line → Line) (w : IsAt t k s) → Differ t.lines → (at_line s f t).lines ≡ slice_set t.lines k (f w.0)
at_set t k s f w d = sym (put_at (λ y. y.socket) s f t.lines k w.0 d w.1 w.2)

pub at_here : (t : Sockets) (k s : ℕ) (f : Line → Line) (w : IsAt t k s) → Differ t.lines → slice_get (at_line s f t).lines k ≡ Some (f w.0)
at_here t k s f w d = ap (λ (ls : List Line). slice_get ls k) (at_set t k s f w d) ∙ set_here t.lines k (f w.0) (at_lt t k s w)

pub at_beside : (t : Sockets) (k s j : ℕ) (f : Line → Line) (w : IsAt t k s) → Differ t.lines → (j ≡ k → ⊥) → slice_get (at_line s f t).lines j ≡ slice_get t.lines j
at_beside t k s j f w d n = ap (λ (ls : List Line). slice_get ls j) (at_set t k s f w d) ∙ set_beside t.lines k j (f w.0) n

pub at_found : (t : Sockets) (k s : ℕ) (w : IsAt t k s) → Differ t.lines → line_of t s ≡ Some w.0
at_found t k s w d = found_at (λ y. y.socket) s t.lines k w.0 d w.1 w.2
