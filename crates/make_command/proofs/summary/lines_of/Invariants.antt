use Rattle.std.proofs.Common.{◌≡◌}
use Rattle.std.specs.Prelude.{filter_map}
use Rattle.std.specs.List.{range_with_len}
use Rattle.make_command.specs.Audits.{world_line}
use Rattle.make_command.proofs.summary.lines_of.Given as goal

abbrev pub invariant-loop-player : goal.invariant-loop-player
invariant-loop-player l = l.lines.items ≡ filter_map (world_line l.table.game l.table.logs) (range_with_len 0 l.player)
