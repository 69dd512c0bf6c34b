use Rattle.std.proofs.Common.{◌≡◌, ◌-◌}
use Rattle.std.specs.List.{range_with_len}
use Rattle.definitions.specs.World.{players_of}
use Rattle.schedule_command.specs.Hostile.{named_among}
use Rattle.schedule_command.proofs.hostile.read_named.Given as goal

abbrev pub invariant-players : goal.invariant-players
invariant-players l =
    named_among (range_with_len 0 (players_of l.session)) 0 l.initial.rest ≡ named_among (range_with_len l.player (players_of l.session - l.player)) l.hostile l.rest
