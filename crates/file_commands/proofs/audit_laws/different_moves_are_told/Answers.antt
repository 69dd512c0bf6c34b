use Rattle.file_commands.proofs.Told.{different_told}
use Rattle.file_commands.proofs.audit_laws.different_moves_are_told.Goals as goal

pub returns : goal.returns
returns c = different_told
