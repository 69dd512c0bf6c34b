use Rattle.peer_window.proofs.Tied.{answers_log, shows_log}
use Rattle.peer_window.proofs.laws.windows_stand_for_logs.Goals as goal

pub returns-clause-shows : goal.returns-clause-shows
returns-clause-shows c = shows_log

pub returns-clause-answers : goal.returns-clause-answers
returns-clause-answers c = answers_log
