use Rattle.std.proofs.Common.{◌≡◌, ◌≤◌, ◌<◌, ◌-◌, ℕ, Some, length, slice_get, true}
use Rattle.std.specs.Prelude.{filter, vec_capacity}
use Rattle.socket_lines.specs.declared.line.Line.{Line}
use Rattle.socket_list.proofs.lines.drop_closed.Given as goal

abbrev pub invariant-loop-at : goal.invariant-loop-at
invariant-loop-at l = record {
  inside : l.at ≤ length l.lines.items;
  same : filter (λ x. x.is_open) l.lines.items ≡ filter (λ x. x.is_open) l.fn.lines.items;
  front : (j : ℕ) (m : Line) → j < l.at → slice_get l.lines.items j ≡ Some m → m.is_open ≡ true;
  capacity : vec_capacity l.lines ≡ vec_capacity l.fn.lines;
}

abbrev pub decreases-loop-at : goal.decreases-loop-at
decreases-loop-at l = length l.lines.items - l.at
