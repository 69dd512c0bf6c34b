use Rattle.sealed_files.proofs.Told.{found, spelled}
use Rattle.sealed_files.proofs.laws.sealed_frames_are_told.Goals as goal

pub returns-clause-found : goal.returns-clause-found
returns-clause-found c = found

pub returns-clause-spelled : goal.returns-clause-spelled
returns-clause-spelled c = spelled
