-- Ends: how a run ends, by the finding of its last log and the lines of its script.
use Rattle.std.proofs.Common.{Bool, List, None, Option, Some, false, refl, true, ℕ, ◌+◌, ◌≡◌}
use Rattle.std.specs.Prelude.{if◌then◌else◌}
use Rattle.definitions.specs.declared.logs.Entry.{Entry}
use Rattle.definitions.specs.World.{Game}
use Rattle.definitions.specs.Findings.{is_clean}
use Rattle.definitions.specs.Advance.{advance}
use Rattle.run_frame.specs.Frame.{Answer, answer_by}
use Rattle.line_io.specs.Inputs.{AtEnd, AtFault, End, Ending, Fault, Input, Line, ending_of, lines_in}
use Rattle.run_frame.specs.declared.statuses.Status.{Status}
use Rattle.run_frame.specs.declared.statuses.Status.TheVariants.{Caught}
use Rattle.drive_command.specs.Grammar.{is_bad}
use Rattle.drive_command.specs.Driven.{Driven, State, fresh_state}
use Rattle.drive_command.specs.Coming.{log_on}
use Rattle.drive_command.specs.Drive.{bad_line, drive, drive_from, drive_log, going_on, log_by, log_from, said_behind, state_behind, status_for, text_behind}
use Rattle.drive_command.specs.Outcomes.{driven_from}
use Rattle.drive_command.specs.Report.{end_text}

clean_status : (b : Bool) (bad : Option ℕ) (ending : Ending) (s : Status) → b ≡ true → s ≡ status_for true bad ending → s ≡ status_for b bad ending
clean_status b bad ending s c e = rw c e

-- a run that goes on from a log, or ends by its finding
on_status : (game : Game) (me : ℕ) (h last : List Entry) (rest : Answer) (bad : Option ℕ) (ending : Ending) →
    (is_clean game h ≡ true → rest.status ≡ status_for (is_clean game last) bad ending) → (going_on game me h rest).status ≡ status_for (is_clean game (log_on game h last)) bad ending
on_status game me h last rest bad ending e = go (is_clean game h) refl
  where
    go : (b : Bool) → is_clean game h ≡ b → (if b then rest else record { body = end_text game me h; status = Caught }).status ≡ status_for (is_clean game (if b then last else h)) bad ending
    go true c = e c
    go false c = rw c refl

-- a line
line_status : (game : Game) (bad_one : Bool) (n : ℕ) (text : List ℕ) (rest : Answer) (now last : List Entry) (bad : Option ℕ) (ending : Ending) → is_clean game now ≡ true →
    rest.status ≡ status_for (is_clean game last) bad ending →
    (answer_by bad_one n text rest).status ≡ status_for (is_clean game (log_by bad_one now last)) (if bad_one then Some n else bad) ending
line_status game true n text rest now last bad ending c e = clean_status (is_clean game now) (Some n) ending _ c refl
line_status game false n text rest now last bad ending c e = e

from_status : (game : Game) (me : ℕ) (s : State) (n : ℕ) (input : Input) → is_clean game s.log ≡ true →
    (drive_from game me s n input).status ≡ status_for (is_clean game (log_from game me s n (lines_in input))) (bad_line game n (lines_in input)) (ending_of input)
from_status game me s n End c = clean_status (is_clean game s.log) None AtEnd _ c refl
from_status game me s n Fault c = clean_status (is_clean game s.log) None AtFault _ c refl
from_status game me s n (Line line input) c =
    let d = said_behind game n line in
    let next : State = state_behind game me s d in
    let lines = lines_in input in
    line_status game (is_bad d) (n + 1) (text_behind game me s d) (going_on game me next.log (drive_from game me next (n + 1) input)) s.log (log_on game next.log (log_from game me next (n + 1) lines)) (bad_line game (n + 1) lines) (ending_of input) c
    (on_status game me next.log (log_from game me next (n + 1) lines) (drive_from game me next (n + 1) input) (bad_line game (n + 1) lines) (ending_of input) (from_status game me next (n + 1) input))

pub drive_status : (game : Game) (me : ℕ) (first : List Entry) (input : Input) →
    (drive game me first input).status ≡ status_for (is_clean game (drive_log game me first input)) (bad_line game 0 (lines_in input)) (ending_of input)
unfolding drive drive_log
drive_status game me first input =
    let next = advance game me first in
    on_status game me next (log_from game me (fresh_state next) 0 (lines_in input)) (drive_from game me (fresh_state next) 0 input) (bad_line game 0 (lines_in input)) (ending_of input) (from_status game me (fresh_state next) 0 input)

-- the status that is due from a driver on
pub driven_status : (d : Driven) (input : Input) → (clean : Bool) × (bad : Option ℕ) × ((driven_from d input).status ≡ status_for clean bad (ending_of input))
driven_status d input =
    let last = log_from d.game d.me d.state d.lines (lines_in input) in (
      is_clean d.game (log_on d.game d.state.log last),
      bad_line d.game d.lines (lines_in input),
      on_status d.game d.me d.state.log last (drive_from d.game d.me d.state d.lines input) (bad_line d.game d.lines (lines_in input)) (ending_of input) (from_status d.game d.me d.state d.lines input),
    )
