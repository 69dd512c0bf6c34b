-- Reading: what stands after the calls that dial, read and shut.
use Rattle.std.specs.Prelude.{◌≡◌, ℕ, ◌+◌, ◌<◌, Bool, true, false, not, ◌&&◌, List, take, if◌then◌else◌}
use Rattle.socket_station.specs.Items.{Item}
use Rattle.socket_station.specs.declared.answers.SocketRead.{SocketRead}
use Rattle.socket_station.specs.declared.answers.SocketRead.TheVariants as R
use Rattle.deposit_rules.specs.declared.phases.DepositPhase.TheVariants.{Giving}
use Rattle.deposit_rules.specs.declared.line.DepositLine.{DepositLine}
use Rattle.deposit_rules.specs.Lines.{asks_shut, closed, quieted, room_of, took}
use Rattle.deposit_rules.specs.Views.{View}
use Rattle.deposit_rules.specs.Rules.{wants_read}
use Rattle.live_deposit.specs.Going.{Goes}

-- a read of the line's socket answered this
abbrev pub read_by : SocketRead → (buf : List ℕ) → DepositLine → DepositLine
read_by (R.Took count) buf w = took (take count buf) w
read_by R.NotYet buf w = quieted w
read_by R.Ended buf w = closed w
read_by R.Failed buf w = closed w

-- how many bytes may still be taken, and one more, where the line is to be read
abbrev pub left_of : DepositLine → ℕ
left_of w = if wants_read w then room_of w + 1 else 0

-- where its socket is open, nothing asks to shut it, and nothing is there to be read
abbrev pub IsRead : DepositLine → Type 0
IsRead w = w.is_open ≡ true → (asks_shut w ≡ false) × (w.is_quiet ≡ true)

-- the logger may be dialled
abbrev pub may_dial : View → Bool
may_dial v = not v.line.is_open && not v.is_dialled

-- calls that no log decides and that dial nothing
pub record Moves (before after : List Item) (v w : View) : Type 0 where
  pub goes : Goes before after v w
  pub giving : w.phase ≡ Giving
  pub dialled : w.is_dialled ≡ v.is_dialled

-- the logger was dialled
pub record Dials (before after : List Item) (v w : View) : Type 0 where
  pub goes : Goes before after v w
  pub giving : w.phase ≡ Giving
  pub dialled : w.is_dialled ≡ true

-- one read, and what it brought heard
pub record Reads (before after : List Item) (v w : View) : Type 0 where
  pub moves : Moves before after v w
  pub less : left_of w.line < left_of v.line

-- the socket is read until it is not to be read any more
pub record ReadsOut (before after : List Item) (v w : View) : Type 0 where
  pub moves : Moves before after v w
  pub out : wants_read w.line ≡ false

-- and then it is shut, if a rule or the limit asks for it
pub record Clears (before after : List Item) (v w : View) : Type 0 where
  pub moves : Moves before after v w
  pub read : IsRead w.line
