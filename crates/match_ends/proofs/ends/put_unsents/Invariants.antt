use Rattle.std.proofs.Common.{◌-◌}
use Rattle.definitions.specs.World.{players_of}
use Rattle.line_io.specs.Texts.{Underway}
use Rattle.match_ends.specs.Ends.{unsents_text}
use Rattle.match_ends.proofs.ends.put_unsents.Given as goal

abbrev pub invariant-players : goal.invariant-players
invariant-players g l =
    Underway (g.O.Sink.state l.initial.out) (g.O.Sink.state l.out)
    (unsents_text (g.L.Played.peer l.played) (g.L.Played.held l.played) 0 (players_of (g.L.Played.peer l.played).game))
    (unsents_text (g.L.Played.peer l.played) (g.L.Played.held l.played) l.player (players_of (g.L.Played.peer l.played).game - l.player))
