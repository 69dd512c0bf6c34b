-- Outcomes: what becomes of a line, and what is written and done from it on.
use Rattle.std.specs.Prelude.{◌≡◌, ℕ, ◌+◌, ◌*◌, ◌≤◌, ◌<◌, Bool, true, false, List, [], ◌++◌, length, if◌then◌else◌, IsTrue}
use Rattle.definitions.specs.declared.logs.Entry.{Entry}
use Rattle.definitions.specs.World.{Game}
use Rattle.definitions.specs.Findings.{is_clean}
use Rattle.run_frame.specs.declared.statuses.Status.TheVariants.{BadLine}
use Rattle.run_frame.specs.declared.statuses.TextName.TheVariants.{Script}
use Rattle.run_frame.specs.Frame.{Answer, after_text, bare_answer}
use Rattle.line_io.specs.Inputs.{Input}
use Rattle.definitions.specs.declared.limits.TheConstants.{MOST_LINES}
use Rattle.definitions.specs.declared.limits.TheConstants.{LONGEST_PIECE}
use Rattle.drive_command.specs.declared.readers.TheConstants.{READERS}
use Rattle.drive_command.specs.declared.outcomes.Outcome.{Outcome}
use Rattle.drive_command.specs.declared.outcomes.Outcome.TheVariants.{Bad, AtOnce, Bytes}
use Rattle.drive_command.specs.declared.outcomes.Answered.{Answered}
use Rattle.drive_command.specs.declared.outcomes.Answered.TheVariants.{Nothing, Choice, Received, Log, Score}
use Rattle.drive_command.specs.declared.outcomes.Reply.{Reply}
use Rattle.drive_command.specs.declared.outcomes.Arrival.{Arrival}
use Rattle.drive_command.specs.declared.outcomes.Arrival.TheVariants as arrival
use Rattle.drive_command.specs.Driven.{Driven, reader_of}
use Rattle.drive_command.specs.Coming.{bytes_text, bytes_state}
use Rattle.drive_command.specs.Drive.{drive_from, going_on}
use Rattle.report_lines.specs.Lines.{choice_text, got_text, hello_text, want_text, bad_text, added_text}
use Rattle.drive_command.specs.Report.{log_text}
use Rattle.report_lines.specs.Report.{own_score_text}

-- what is written about a frame that came from q, by the peer's answer, where the log is now this one
abbrev pub reply_text : ℕ → Reply → List Entry → List ℕ
reply_text q reply log = got_text q reply.place reply.answer ++ added_text reply.entries log

-- the answer to this input from this driver on
abbrev pub driven_from : Driven → Input → Answer
driven_from d input = going_on d.game d.me d.state.log (drive_from d.game d.me d.state d.lines input)

-- this driver behind bytes that come from q
abbrev pub behind_bytes : Driven → ℕ → List ℕ → Driven
behind_bytes d q bytes = record { game = d.game; me = d.me; state = bytes_state d.game d.me d.state q bytes; lines = d.lines }

-- the answer to bytes that come from q, and then to this input, from this driver on
abbrev pub bytes_from : Driven → ℕ → List ℕ → Input → Answer
bytes_from d q bytes input = after_text (bytes_text d.game d.me d.state q bytes) (driven_from (behind_bytes d q bytes) input)

-- what is written about a line that is told at once, where the log is now this one
abbrev pub answered_text : Game → ℕ → Answered → (log : List Entry) → List ℕ
answered_text game me Nothing log = []
answered_text game me (Choice turn fault entries) log = choice_text turn fault ++ added_text entries log
answered_text game me (Received from reply) log = reply_text from reply log
answered_text game me Log log = log_text game me log
answered_text game me Score log = own_score_text game me log

-- The whole answer from a line on, by what became of it, where behind it the driver is this one: the line is the n-th, and
-- this input comes behind it.
abbrev pub AnswersBy : Outcome → (whole : Answer) → (n : ℕ) → Driven → Input → Type 0
AnswersBy Bad whole n d input = whole ≡ bare_answer (BadLine Script n)
AnswersBy (AtOnce answered) whole n d input = whole ≡ after_text (answered_text d.game d.me answered d.state.log) (driven_from d input)
AnswersBy (Bytes from bytes) whole n d input = whole ≡ bytes_from d from bytes input

-- Bytes from this player may come: it has a reader, the log has no finding, and with them no more bytes came than the lines
-- so far may have.
pub record MayCome (d : Driven) (q : ℕ) (bytes : List ℕ) : Type 0 where
  pub known : q < READERS
  pub clean : IsTrue (is_clean d.game d.state.log)
  pub few : (reader_of d.state q).place + length bytes ≤ LONGEST_PIECE * d.lines

-- the log has all that it had before the line
abbrev pub HasAll : Answered → (log : List Entry) → Type 0
HasAll Nothing log = Unit {0}
HasAll (Choice turn fault entries) log = entries ≤ length log
HasAll (Received from reply) log = reply.entries ≤ length log
HasAll Log log = Unit {0}
HasAll Score log = Unit {0}

-- What holds of a driver behind a line that lets the run go on, where so many lines were taken before: it took one more, which
-- was not one too many, its log has all that it had, and bytes of the line may come.
abbrev pub Counts : Outcome → (lines : ℕ) → Driven → Type 0
Counts Bad lines d = d.lines ≡ lines
Counts (AtOnce answered) lines d = (d.lines ≡ lines + 1) × (d.lines ≤ MOST_LINES) × HasAll answered d.state.log
Counts (Bytes from bytes) lines d = (d.lines ≡ lines + 1) × (d.lines ≤ MOST_LINES) × MayCome d from bytes

-- what is written about what arrived in q's bytes, where the log is now this one
abbrev pub part_text : Arrival → ℕ → List Entry → List ℕ
part_text arrival.More q log = []
part_text arrival.Hello q log = hello_text q
part_text (arrival.Want place) q log = want_text q place
part_text (arrival.Received reply) q log = reply_text q reply log
part_text (arrival.Bad place) q log = bad_text q place

-- nothing arrives behind it
abbrev pub is_last : Arrival → Bool
is_last arrival.More = true
is_last arrival.Hello = false
is_last (arrival.Want place) = false
is_last (arrival.Received reply) = false
is_last (arrival.Bad place) = true

-- the answer behind a part of q's bytes, of which these are left: where it is the last, or the log has a finding by now, the
-- rest of the line is dropped
abbrev pub rest_from : (last : Bool) → Driven → ℕ → (rest : List ℕ) → Input → Answer
rest_from true d q rest input = driven_from d input
rest_from false d q rest input = if is_clean d.game d.state.log then bytes_from d q rest input else driven_from d input

-- the log has all that it had before the frame that arrived, if one of a turn was
abbrev pub HasBefore : Arrival → (log : List Entry) → Type 0
HasBefore arrival.More log = Unit {0}
HasBefore arrival.Hello log = Unit {0}
HasBefore (arrival.Want place) log = Unit {0}
HasBefore (arrival.Received reply) log = reply.entries ≤ length log
HasBefore (arrival.Bad place) log = Unit {0}

-- P, where the line lets the run go on
abbrev pub Unless : (bad : Bool) → Type 0 → Type 0
Unless true P = Unit {0}
Unless false P = P
