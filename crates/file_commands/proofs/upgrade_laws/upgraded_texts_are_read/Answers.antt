use Rattle.file_commands.proofs.Tells.{upgraded_again}
use Rattle.file_commands.proofs.upgrade_laws.upgraded_texts_are_read.Goals as goal

pub returns : goal.returns
returns c = upgraded_again
