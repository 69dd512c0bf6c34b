use Rattle.std.proofs.Common.{◌∙◌, zero-add}
use Rattle.old_log.proofs.Sizes.{none_written}
use Rattle.old_log.proofs.places.place_behind.Goals as goal

pub loop-entry-init : goal.loop-entry-init
loop-entry-init c = zero-add _ ∙ none_written c.args.session.now.id c.args.owner c.new-writer.result c.args.entries.now c.new-writer.ensures
