-- Sending: what stands after whole calls of a depositor.
use Rattle.std.specs.Prelude.{◌≡◌, ℕ, ◌≤◌, Bool, true, false, List, [], ◌∷◌, ◌++◌}
use Rattle.station.specs.Shelves.{ShelfState}
use Rattle.socket_station.specs.Items.{Item, Failed, PollCall}
use Rattle.deposit_rules.specs.declared.phases.DepositPhase.TheVariants as P
use Rattle.deposit_rules.specs.Views.{View}
use Rattle.deposit_rules.specs.Rules.{is_licensed, is_sent}
use Rattle.live_deposit.specs.declared.deposit.Deposited.{Deposited}
use Rattle.live_deposit.specs.declared.deposit.Deposited.TheVariants.{Sent, GaveUp, PollFault, ShelfFault}
use Rattle.live_deposit.specs.declared.settling.Settled.{Settled}
use Rattle.live_deposit.specs.declared.settling.Settled.TheVariants as S
use Rattle.live_deposit.specs.Told.{IsTold}
use Rattle.live_deposit.specs.Going.{Grew}
use Rattle.live_deposit.specs.Logs.{Asks, ForLog}

-- the last item is a poll that failed
abbrev pub LastPollFailed : List Item → Type 0
LastPollFailed items = (before : List Item) × (items ≡ before ++ Failed PollCall ∷ [])

-- ---- before a poll

-- Where a depositor stands, all done that may be done: a poll is licensed for this log, or it is
-- sent. After a fault of the shelf nobody knows whether it is.
abbrev pub StandsSettled : (log : List ℕ) → Settled → View → Type 0
StandsSettled log S.Idle w = is_licensed log w ≡ true
StandsSettled log S.Sent w = is_sent log w ≡ true
StandsSettled log S.ShelfFault w = Unit {0}

-- whether the shelf failed
abbrev pub is_shelf_failed : Settled → Bool
is_shelf_failed S.Idle = false
is_shelf_failed S.Sent = false
is_shelf_failed S.ShelfFault = true

-- All was done that may be done before the next poll, with the log of the file of this name.
pub record Settles (name : List ℕ) (r : Settled) (before after : List Item) (s t : ShelfState) (v w : View) : Type 0 where
  pub more : List Item
  pub grew : Grew 0 before after more v w
  pub giving : w.phase ≡ P.Giving
  pub asks : Asks name (is_shelf_failed r) s t
  pub told : ForLog s t (λ log. IsTold log before v → IsTold log after w)
  pub stands : ForLog s t (λ log. StandsSettled log r w)

-- ---- with polls

-- Why a call ended so, after so many polls of those granted. Sent: the log's last byte was given,
-- or a place at or past its end was wanted. GaveUp: all polls were made, what they brought is
-- handled, and a further one is licensed, which it is only where the log isn't sent. PollFault: a
-- licensed poll failed, which is the last item.
abbrev pub StandsDeposited : (log : List ℕ) → (polls made : ℕ) → Deposited → (more : List Item) → View → Type 0
StandsDeposited log polls made Sent more w = (is_sent log w ≡ true) × (w.phase ≡ P.Giving)
StandsDeposited log polls made GaveUp more w = (made ≡ polls) × (is_licensed log w ≡ true)
StandsDeposited log polls made PollFault more w = (w.phase ≡ P.PollFault) × (is_sent log w ≡ false) × LastPollFailed more
StandsDeposited log polls made ShelfFault more w = w.phase ≡ P.Giving

-- whether the shelf failed
abbrev pub is_shelf_fault : Deposited → Bool
is_shelf_fault Sent = false
is_shelf_fault GaveUp = false
is_shelf_fault PollFault = false
is_shelf_fault ShelfFault = true

-- The log of the file of this name was given, with at most so many polls. What the station told is
-- by the rules for the log of any content that gives what the shelf answered, and so is the end.
pub record Sends (name : List ℕ) (polls : ℕ) (r : Deposited) (before after : List Item) (s t : ShelfState) (v w : View) : Type 0 where
  pub made : ℕ
  pub more : List Item
  pub grew : Grew made before after more v w
  pub few : made ≤ polls
  pub asks : Asks name (is_shelf_fault r) s t
  pub told : ForLog s t (λ log. IsTold log before v → IsTold log after w)
  pub stands : ForLog s t (λ log. StandsDeposited log polls made r more w)
  -- a poll fault is told only where the last item is a poll that failed, whatever the shelf answered
  pub failed : r ≡ PollFault → LastPollFailed more
