use Rattle.std.proofs.Common.{◌-◌}
use Rattle.definitions.specs.World.{players_of}
use Rattle.line_io.specs.Texts.{Underway}
use Rattle.report_lines.specs.Report.{players_text}
use Rattle.report_lines.proofs.standing.put_players.Given as goal

abbrev pub invariant-players : goal.invariant-players
invariant-players g l =
    Underway (g.O.Sink.state l.initial.out) (g.O.Sink.state l.out)
    (players_text l.peer.game l.peer.me l.peer.entries 0 (players_of l.peer.game))
    (players_text l.peer.game l.peer.me l.peer.entries l.player (players_of l.peer.game - l.player))
