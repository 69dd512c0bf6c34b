use Rattle.std.proofs.Common.{◌≡◌, take}
use Rattle.definitions.specs.World.{seat_of}
use Rattle.pilots.specs.Choices.{least_from}
use Rattle.pilots.proofs.bot.reach_of_all.Given as goal

abbrev pub invariant-loop-player : goal.invariant-loop-player
invariant-loop-player l = l.least ≡ least_from (seat_of l.session 0).reach (take l.player l.session.seats)
