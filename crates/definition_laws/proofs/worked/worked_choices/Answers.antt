use Rattle.definition_laws.proofs.Rows.{three_ahead, players_differ, refuses_by_cause, begins, logs_choice, plays_blind, waits_where_spheres_meet, goes_where_apart, walls_keep_apart, runners, two_ahead, ends_done}
use Rattle.definition_laws.proofs.worked.worked_choices.Goals as goal

pub returns-clause-begins : goal.returns-clause-begins
returns-clause-begins c = begins

pub returns-clause-logs : goal.returns-clause-logs
returns-clause-logs c = logs_choice

pub returns-clause-blind : goal.returns-clause-blind
returns-clause-blind c = plays_blind

pub returns-clause-touch : goal.returns-clause-touch
returns-clause-touch c = waits_where_spheres_meet

pub returns-clause-apart : goal.returns-clause-apart
returns-clause-apart c = goes_where_apart

pub returns-clause-walled : goal.returns-clause-walled
returns-clause-walled c = walls_keep_apart

pub returns-clause-runner : goal.returns-clause-runner
returns-clause-runner c = runners

pub returns-clause-ahead : goal.returns-clause-ahead
returns-clause-ahead c = two_ahead

pub returns-clause-ends : goal.returns-clause-ends
returns-clause-ends c = ends_done

pub returns-clause-moves : goal.returns-clause-moves
returns-clause-moves c = refuses_by_cause

pub returns-clause-further_ahead : goal.returns-clause-further_ahead
returns-clause-further_ahead c = three_ahead

pub returns-clause-differ : goal.returns-clause-differ
returns-clause-differ c = players_differ
