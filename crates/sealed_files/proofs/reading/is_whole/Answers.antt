use Rattle.std.proofs.Common.{arith}
use Rattle.seal_keys.proofs.Heights.{tree_height_within}
use Rattle.sealed_files.proofs.reading.is_whole.Goals as goal

pub sealed_len-requires : goal.sealed_len-requires
sealed_len-requires c = let most = tree_height_within c.args.session.now in omega (arith, most, c.requires)
