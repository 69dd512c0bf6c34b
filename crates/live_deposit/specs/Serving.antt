-- Serving: what stands after calls that ask for the log.
use Rattle.std.specs.Prelude.{◌≡◌, ℕ, ◌<◌, Bool, true, false, List, Option, None, Some}
use Rattle.station.specs.Shelves.{ShelfState}
use Rattle.socket_station.specs.Items.{Item}
use Rattle.deposit_rules.specs.declared.phases.DepositPhase.TheVariants.{Giving}
use Rattle.deposit_rules.specs.Views.{View}
use Rattle.deposit_rules.specs.Rules.{is_idle, is_sent}
use Rattle.live_deposit.specs.declared.settling.Settled.{Settled}
use Rattle.live_deposit.specs.declared.settling.Settled.TheVariants as S
use Rattle.live_deposit.specs.Told.{IsTold}
use Rattle.live_deposit.specs.Going.{Grew}
use Rattle.live_deposit.specs.Logs.{Asks, ForLog}
use Rattle.live_deposit.specs.Reading.{IsRead}
use Rattle.live_deposit.specs.Writing.{log_left, owes_hello}
use Rattle.live_deposit.specs.Sending.{is_shelf_failed}

-- The shelf was asked for the log of this name, and the history grew, with so many polls.
pub record GoesFor (count : ℕ) (name : List ℕ) (failed : Bool) (before after : List Item) (s t : ShelfState) (v w : View) : Type 0 where
  pub more : List Item
  pub grew : Grew count before after more v w
  pub asks : Asks name failed s t
  pub told : ForLog s t (λ log. IsTold log before v → IsTold log after w)

-- where a depositor stands that wrote what it could
abbrev pub StandsServed : (log : List ℕ) → Settled → View → Type 0
StandsServed log S.Idle w = (is_idle log w.line ≡ true) × (is_sent log w ≡ false)
StandsServed log S.Sent w = is_sent log w ≡ true
StandsServed log S.ShelfFault w = Unit {0}

-- its socket was read and written as far as may be, and nothing dialled
pub record Serves (name : List ℕ) (r : Settled) (before after : List Item) (s t : ShelfState) (v w : View) : Type 0 where
  pub goes : GoesFor 0 name (is_shelf_failed r) before after s t v w
  pub giving : w.phase ≡ Giving
  pub dialled : w.is_dialled ≡ v.is_dialled
  pub stands : ForLog s t (λ log. StandsServed log r w)

-- ---- piece by piece

-- ready for a piece of the log: the socket is read, and no HELLO is to be written on it
pub record IsGreeted (v : View) : Type 0 where
  pub giving : v.phase ≡ Giving
  pub read : IsRead v.line
  pub hello : owes_hello v.line ≡ false

-- whether the shelf failed at a piece
abbrev pub is_piece_failed : Option Settled → Bool
is_piece_failed None = false
is_piece_failed (Some r) = is_shelf_failed r

-- why a piece was the last one, if it was
abbrev pub StandsGiven : (log : List ℕ) → Option Settled → View → Type 0
StandsGiven log None w = Unit {0}
StandsGiven log (Some r) w = StandsServed log r w

-- a piece of the log was read and written, or it is said why not
pub record GivesPiece (name : List ℕ) (r : Option Settled) (before after : List Item) (s t : ShelfState) (v w : View) : Type 0 where
  pub goes : GoesFor 0 name (is_piece_failed r) before after s t v w
  pub greeted : IsGreeted w
  pub dialled : w.is_dialled ≡ v.is_dialled
  pub stands : ForLog s t (λ log. StandsGiven log r w)
  pub less : r ≡ None → log_left w.line w.line.cursor < log_left v.line v.line.cursor
