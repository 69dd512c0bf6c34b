use Rattle.std.proofs.Common.{arith}
use Rattle.frame_index.proofs.StreamsShown.{still_commit, there_commit}
use Rattle.frame_index.proofs.heads.next_commitment.Goals as goal

pub returns-in-None-clause-next : goal.returns-in-None-clause-next
returns-in-None-clause-next c logs h keeps there read next = still_commit _ _ _ _ read next (c.in-None.ensures _ logs _ h keeps there)

pub returns-in-Some-clause-next : goal.returns-in-Some-clause-next
returns-in-Some-clause-next c logs h keeps there read next = (there_commit _ _ _ _ _ read next (c.in-Some.ensures _ logs _ h keeps there), omega arith)
