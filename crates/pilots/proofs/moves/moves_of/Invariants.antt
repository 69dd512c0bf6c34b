use Rattle.std.proofs.Common.{◌≡◌, ◌-◌, ◌+◌}
use Rattle.text_lines.specs.Lines.{ended_lines_of}
use Rattle.text_lines.proofs.Steps.{with_front}
use Rattle.pilots.specs.Scripts.{moves_at, script_at}
use Rattle.pilots.proofs.moves.moves_of.Given as goal

abbrev pub invariant-loop-turn : goal.invariant-loop-turn
invariant-loop-turn l = with_front l.moves.items (moves_at (l.turns - l.turn) (l.turn + 1) (ended_lines_of l.rest)) ≡ script_at l.turns l.text
