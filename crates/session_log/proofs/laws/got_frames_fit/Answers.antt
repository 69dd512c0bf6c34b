use Rattle.session_log.proofs.ReadSo.{got_frames_fit}
use Rattle.session_log.proofs.laws.got_frames_fit.Goals as goal

pub returns : goal.returns
returns c = got_frames_fit
