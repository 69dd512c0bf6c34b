use Rattle.ready_loop.proofs.Whole.{settlings_end_runs, rounds_end_runs, rounds_lead_runs}
use Rattle.ready_loop.proofs.laws.rounds_make_runs.Goals as goal

pub returns-clause-settled : goal.returns-clause-settled
returns-clause-settled c = settlings_end_runs

pub returns-clause-ended : goal.returns-clause-ended
returns-clause-ended c = rounds_end_runs

pub returns-clause-led : goal.returns-clause-led
returns-clause-led c = rounds_lead_runs
