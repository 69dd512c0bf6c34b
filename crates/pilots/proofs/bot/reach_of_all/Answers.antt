use Rattle.std.proofs.Common.{arith}
use Rattle.definitions.specs.World.{seat_of}
use Rattle.pilots.proofs.Least.{least_more}
use Rattle.pilots.proofs.bot.reach_of_all.Goals as goal

pub loop-player-preserved : goal.loop-player-preserved
loop-player-preserved c =
    let game = c.args.session.now in
    let more = least_more (seat_of game 0).reach game.seats c.loop-player.player (omega arith) in
    grind (arith, more)
