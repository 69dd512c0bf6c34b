use Rattle.loop_laws.proofs.Computed.{brings_its_frames, gives_its_frames, handles_its_frames, counts_what_is_asked_for}
use Rattle.loop_laws.proofs.worked.a_match_of_two.Goals as goal

pub returns-clause-came : goal.returns-clause-came
returns-clause-came c = brings_its_frames

pub returns-clause-given : goal.returns-clause-given
returns-clause-given c = gives_its_frames

pub returns-clause-handled : goal.returns-clause-handled
returns-clause-handled c = handles_its_frames

pub returns-clause-counted : goal.returns-clause-counted
returns-clause-counted c = counts_what_is_asked_for
