use Rattle.std.proofs.Common.{arith, refl}
use Rattle.std.proofs.lemmas.Option.{slice_get_read}
use Rattle.frame_index.proofs.kept.place_in.Goals as goal

pub returns-then-is_kept-clause-some : goal.returns-then-is_kept-clause-some
returns-then-is_kept-clause-some c = (
  c.index-kept-at.result,
  slice_get_read c.args.kept.now _ c.loop-at.at c.index-kept-at.result refl (omega arith) c.index-kept-at.is,
  c.if-is_kept.ensures.same refl,
)
