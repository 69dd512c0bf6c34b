use Rattle.definition_laws.proofs.Rows.{reveals_in_order, takes_once, stashes_early, window_of_eight, goes_on_when_known, strikes_cost, takes_ahead}
use Rattle.definition_laws.proofs.worked.worked_frames.Goals as goal

pub returns-clause-once : goal.returns-clause-once
returns-clause-once c = takes_once

pub returns-clause-early : goal.returns-clause-early
returns-clause-early c = stashes_early

pub returns-clause-window : goal.returns-clause-window
returns-clause-window c = window_of_eight

pub returns-clause-goes_on : goal.returns-clause-goes_on
returns-clause-goes_on c = goes_on_when_known

pub returns-clause-strikes : goal.returns-clause-strikes
returns-clause-strikes c = strikes_cost

pub returns-clause-ahead : goal.returns-clause-ahead
returns-clause-ahead c = takes_ahead

pub returns-clause-reveals : goal.returns-clause-reveals
returns-clause-reveals c = reveals_in_order
