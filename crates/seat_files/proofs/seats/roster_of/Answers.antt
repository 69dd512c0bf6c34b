use Rattle.run_frame.specs.declared.statuses.TextName.TheVariants.{Roster}
use Rattle.run_frame.proofs.TextFaults.{text_calm, text_refused}
use Rattle.seat_files.proofs.seats.roster_of.Goals as goal

pub returns-in-Err-clause-due : goal.returns-in-Err-clause-due
returns-in-Err-clause-due c = rw c.status_of_text.ensures (text_refused Roster _ c.in-Err.fault c.in-Err.ensures.said)

pub returns-in-Err-clause-calm : goal.returns-in-Err-clause-calm
returns-in-Err-clause-calm c = rw c.status_of_text.ensures (text_calm Roster c.in-Err.fault)
