-- Writing: what stands after the calls that write.
use Rattle.std.specs.Prelude.{◌≡◌, ◌+◌, ◌-◌, ◌^◌, ◌<◌, ◌≤◌, ℕ, Bool, true, false, not, ◌&&◌, List, Option, None, Some, length, if◌then◌else◌}
use Rattle.definitions.specs.Lists.{is_empty}
use Rattle.definitions.specs.declared.limits.TheConstants.{LONGEST_LOG}
use Rattle.station.specs.declared.sources.Pull.{Pull}
use Rattle.station.specs.Shelves.{ShelfState}
use Rattle.station.specs.Sources.{TakesWithin, pulled}
use Rattle.line_io.specs.Fronts.{IsCall, bytes_given}
use Rattle.socket_station.specs.Items.{Item}
use Rattle.socket_station.specs.declared.answers.SocketWrite.{SocketWrite}
use Rattle.socket_station.specs.declared.answers.SocketWrite.TheVariants as W
use Rattle.deposit_rules.specs.declared.line.DepositLine.{DepositLine}
use Rattle.deposit_rules.specs.Lines.{blocked, closed, gave}
use Rattle.deposit_rules.specs.Views.{View}
use Rattle.live_deposit.specs.Reading.{IsRead, Moves}

-- a write on the line's socket answered this
abbrev pub wrote_by : SocketWrite → DepositLine → DepositLine
wrote_by (W.Gave count) w = gave count w
wrote_by W.NotYet w = blocked w
wrote_by W.Failed w = closed w

-- a write on the line's socket may be tried
abbrev pub takes_bytes : DepositLine → Bool
takes_bytes w = w.is_open && not w.is_blocked

-- bytes of the HELLO are to be written
abbrev pub owes_hello : DepositLine → Bool
owes_hello w = takes_bytes w && not (is_empty w.unsent)

-- how many bytes of the HELLO are to be written
abbrev pub hello_left : DepositLine → ℕ
hello_left w = if owes_hello w then length w.unsent else 0

-- how many bytes of the log might still be given at most, where any may be
abbrev pub log_left : DepositLine → Option ℕ → ℕ
log_left w None = 0
log_left w (Some at) = if takes_bytes w then 2 ^ 32 - at else 0

-- what a write answered may be counted as given of the HELLO
abbrev pub MayGreet : SocketWrite → DepositLine → Type 0
MayGreet (W.Gave count) w = (is_empty w.unsent ≡ false) × (count ≤ length w.unsent)
MayGreet W.NotYet w = Unit {0}
MayGreet W.Failed w = Unit {0}

-- so many bytes of the log may be counted as given
pub record MayCount (count : ℕ) (w : DepositLine) : Type 0 where
  pub hello : is_empty w.unsent ≡ true
  pub few : count < 2 ^ 32
  pub log : (at : ℕ) → w.cursor ≡ Some at → at + count < 2 ^ 32

-- what a write answered may be counted as given of the log
abbrev pub MayGive : SocketWrite → DepositLine → Type 0
MayGive (W.Gave count) w = MayCount count w
MayGive W.NotYet w = Unit {0}
MayGive W.Failed w = Unit {0}

-- a call for the log from this place on answered this: no byte past the longest log's end
pub record Fetches (s t : ShelfState) (name : List ℕ) (at : ℕ) (r : Pull) (buf : List ℕ) : Type 0 where
  pub call : IsCall s t name at (pulled r buf)
  pub within : TakesWithin r buf
  pub few : at + length (bytes_given (pulled r buf)) ≤ LONGEST_LOG

-- one write of the HELLO
pub record Greets (before after : List Item) (v w : View) : Type 0 where
  pub moves : Moves before after v w
  pub read : IsRead w.line
  pub less : hello_left w.line < hello_left v.line

-- the HELLO is written until all of it was given, or no more can be
pub record GreetsOut (before after : List Item) (v w : View) : Type 0 where
  pub moves : Moves before after v w
  pub read : IsRead w.line
  pub out : owes_hello w.line ≡ false
