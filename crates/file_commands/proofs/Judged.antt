-- Judged: what a run of the command to judge reads, and when it is refused.
use Rattle.std.proofs.Common.{Some, ap}
use Rattle.std.specs.Prelude.{Result, Err}
use Rattle.definitions.specs.World.{Game}
use Rattle.station.specs.Shelves.{ShelfState}
use Rattle.run_frame.specs.declared.statuses.Status.{Status}
use Rattle.run_frame.specs.declared.statuses.Status.TheVariants.{BadLine, BadSession, InputFault, NoMemory}
use Rattle.run_frame.specs.declared.statuses.TextName.TheVariants.{Evidence, Script, Roster, Moves, Seed, Roots}
use Rattle.evidence.specs.declared.exhibit.Exhibit.{Exhibit}
use Rattle.file_commands.specs.Judge.{judge_answer}
use Rattle.file_commands.specs.JudgeWords.{Judging}
use Rattle.run_frame.specs.Law.{ReadsFor}
use Rattle.file_commands.specs.Exhibits.{IsCaseDue}
use Rattle.file_commands.specs.CaseFiles.{OpensCase}
use Rattle.file_commands.specs.JudgeLaw.{judge_law}
use Rattle.run_frame.proofs.Alone.{IsRefused}

pub case_reads : (h h' : ShelfState) (j : Judging) (case : Result (Game × Exhibit) Status) → (o : OpensCase h h' j.session j.evidence case) → ReadsFor (judge_law j) h h' o.calls
case_reads h h' j case o = record { reads = o.reads; due = o.second_due }

-- what is due where there is no session or no exhibit
pub case_refused : (due : Result (Game × Exhibit) Status) (s : Status) → IsCaseDue due (Err s) → IsRefused (judge_answer due) s
case_refused due NoMemory d = tt
case_refused due InputFault d = tt
case_refused due (BadSession line what) d = ap judge_answer d
case_refused due (BadLine Evidence line) d = ap judge_answer d
case_refused due (BadLine Script line) d = absurd d
case_refused due (BadLine Roster line) d = absurd d
case_refused due (BadLine Moves line) d = absurd d
case_refused due (BadLine Seed line) d = absurd d
case_refused due (BadLine Roots line) d = absurd d
case_refused due s d = absurd d
