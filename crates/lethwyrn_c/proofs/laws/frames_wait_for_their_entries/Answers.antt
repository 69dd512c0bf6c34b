use Rattle.lethwyrn_c.proofs.Runs.{frames_wait}
use Rattle.lethwyrn_c.proofs.laws.frames_wait_for_their_entries.Goals as goal

pub returns : goal.returns
returns c = frames_wait
