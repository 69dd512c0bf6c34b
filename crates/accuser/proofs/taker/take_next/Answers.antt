use Rattle.std.proofs.Common.{arith}
use Rattle.seal_keys.proofs.Heights.{tree_height_within}
use Rattle.accuser.proofs.taker.take_next.Goals as goal

pub sealed_len-requires : goal.sealed_len-requires
sealed_len-requires c = let most = tree_height_within c.args.session.now in let room = c.take_sealed.ensures.leaves.of_session.room in omega (arith, most, room)
