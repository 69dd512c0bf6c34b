-- OneLine: lists of lines of which one is changed at its place, or those of one socket.
use Rattle.std.proofs.Common.{◌≡◌, ℕ, zero, suc, subst, List, [], ◌∷◌, slice_set}
use Rattle.std.specs.Prelude.{Some, ◌==◌, slice_get, if◌then◌else◌}
use Rattle.plain_lemmas.proofs.Tests.{of_chosen}
use Rattle.socket_lines.specs.declared.line.Line.{Line}
use Rattle.socket_lines.specs.Lines.{woken}
use Rattle.loop_rules.proofs.Alike.{Same, same, Alike, alike}
use Rattle.loop_rules.proofs.Alike as one

pub alike_set : (ls : List Line) (k : ℕ) (l m : Line) → slice_get ls k ≡ Some l → Same l m → Alike ls (slice_set ls k m)
alike_set [] k l m g s = tt
alike_set (x ∷ xs) zero l m g s = (subst (λ (y : Line). Same y m) (let e : l ≡ x = cc in e) s, alike xs)
alike_set (x ∷ xs) (suc k) l m g s = (same x, alike_set xs k l m g s)

-- a line that is woken where it is of this socket
pub woken_same : (s : ℕ) (l : Line) → Same l (if l.socket == s then woken l else l)
woken_same s l = of_chosen (Same l) (l.socket == s) (woken l) l (one.woken_same l) (same l)
