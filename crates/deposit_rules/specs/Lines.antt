-- Lines: what a history shows of a depositor's one socket.
use Rattle.std.specs.Prelude.{ℕ, ◌+◌, ◌-◌, Bool, true, false, ◌||◌, ◌==◌, List, [], drop, length, Option, Some, None, option_map, if◌then◌else◌}
use Rattle.std.specs.List.{fold}
use Rattle.definitions.specs.Lists.{is_empty}
use Rattle.wire_frames.specs.declared.frames.Frame.{Frame}
use Rattle.wire_frames.specs.declared.frames.Frame.TheVariants.{Hello, Turn, Want}
use Rattle.wire_frames.specs.Reading.{at_start}
use Rattle.wire_frames.specs.Spelling.{spelling}
use Rattle.wire_frames.specs.Streams.{Given, given_of}
use Rattle.deposit_rules.specs.declared.line.TheConstants.{MOST_ANSWER}
use Rattle.deposit_rules.specs.declared.line.DepositLine.{DepositLine}

-- no socket was opened
abbrev pub no_line : DepositLine
no_line = record {
  socket = 0;
  is_open = false;
  is_quiet = false;
  is_blocked = false;
  is_wrong = false;
  reader = at_start;
  taken = 0;
  unsent = [];
  cursor = None;
}

-- a socket that was dialled: the HELLO is due
abbrev pub new_line : (socket : ℕ) → Frame → DepositLine
new_line n hello = record no_line { socket = n; is_open = true; unsent = spelling hello }

-- it ended, failed or was shut
abbrev pub closed : DepositLine → DepositLine
closed w = record w { is_open = false }

-- a read of it found nothing
abbrev pub quieted : DepositLine → DepositLine
quieted w = record w { is_quiet = true }

-- a write on it was refused for now
abbrev pub blocked : DepositLine → DepositLine
blocked w = record w { is_blocked = true }

-- a poll listed it: it may be read and written again
abbrev pub woken : DepositLine → DepositLine
woken w = record w { is_quiet = false; is_blocked = false }

-- a rule asks to shut it
abbrev pub doomed : DepositLine → DepositLine
doomed w = record w { is_wrong = true }

-- ---- what the logger says

-- a WANT is obeyed where it is the first frame
abbrev pub wanted : (place : ℕ) → Option ℕ → DepositLine → DepositLine
wanted place None w = record w { cursor = Some place }
wanted place (Some at) w = doomed w

-- this frame came
abbrev pub heard_frame : DepositLine → Frame → DepositLine
heard_frame w (Hello id q pass next) = doomed w
heard_frame w (Turn f) = doomed w
heard_frame w (Want place) = wanted place w.cursor w

-- this frame came; after one for which it is to be shut none counts
abbrev pub heard : DepositLine → Frame → DepositLine
heard w f = if w.is_wrong then w else heard_frame w f

-- a rule asks to shut it, if the test passes
abbrev pub doomed_if : Bool → DepositLine → DepositLine
doomed_if true w = doomed w
doomed_if false w = w

-- these frames came, and perhaps a bad byte behind them
abbrev pub heard_all : Given → DepositLine → DepositLine
heard_all g w = record (doomed_if g.reader.bad (fold heard w g.frames)) { reader = g.reader }

-- these bytes were fed to its reader, and heard
abbrev pub fed : List ℕ → DepositLine → DepositLine
fed bytes w = heard_all (given_of w.reader bytes) w

-- these bytes came
abbrev pub took : List ℕ → DepositLine → DepositLine
took bytes w = fed bytes (record w { taken = w.taken + length bytes })

-- how many bytes may still be taken
abbrev pub room_of : DepositLine → ℕ
room_of w = MOST_ANSWER - w.taken

-- a rule or the limit asks to shut it
abbrev pub asks_shut : DepositLine → Bool
asks_shut w = w.is_wrong || (room_of w == 0)

-- ---- what is given

-- so many of the bytes due were given: first of the HELLO, then of the log
abbrev pub gave : (count : ℕ) → DepositLine → DepositLine
gave count w = if is_empty w.unsent then record w { cursor = option_map (λ at. at + count) w.cursor } else record w { unsent = drop count w.unsent }
