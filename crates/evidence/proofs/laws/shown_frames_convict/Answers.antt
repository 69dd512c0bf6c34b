use Rattle.evidence.proofs.Convicting.{shown_convict}
use Rattle.evidence.proofs.laws.shown_frames_convict.Goals as goal

pub returns : goal.returns
returns c = shown_convict
