use Rattle.std.proofs.Common.{◌-◌}
use Rattle.definitions.specs.World.{players_of}
use Rattle.line_io.specs.Texts.{Underway}
use Rattle.auditor.specs.Reports.{world_by}
use Rattle.file_commands.specs.AuditLines.{world_lines}
use Rattle.file_commands.proofs.audit_printing.put_players.Given as goal

abbrev pub invariant-players : goal.invariant-players
invariant-players g l =
    Underway (g.O.Sink.state l.initial.out) (g.O.Sink.state l.out) (world_lines (world_by l.report) 0 (players_of l.session)) (world_lines (world_by l.report) l.player (players_of l.session - l.player))
