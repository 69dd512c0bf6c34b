use Rattle.std.proofs.Common.{arith}
use Rattle.peer_core.proofs.Cleared.{cleared_all}
use Rattle.peer_core.proofs.others.Others.clear.Goals as goal

pub returns : goal.returns
returns c = record { others = cleared_all c.args.session.now c.args.me c.loop-player.player c.loop-player.self (omega arith) c.loop-player.invariant }
