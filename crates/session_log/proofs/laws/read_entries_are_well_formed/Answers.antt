use Rattle.session_log.proofs.ReadSo.{read_well_formed}
use Rattle.session_log.proofs.laws.read_entries_are_well_formed.Goals as goal

pub returns : goal.returns
returns c = read_well_formed
