use Rattle.evidence.proofs.Counted.{shown_counted}
use Rattle.evidence.proofs.Few.{shown_few, shown_read}
use Rattle.evidence.proofs.laws.shown_frames_are_counted.Goals as goal

pub returns-clause-counted : goal.returns-clause-counted
returns-clause-counted c = shown_counted

pub returns-clause-few : goal.returns-clause-few
returns-clause-few c = shown_few

pub returns-clause-read : goal.returns-clause-read
returns-clause-read c = shown_read
