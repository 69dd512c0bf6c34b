-- Polling: what stands after a poll, and after a round.
use Rattle.std.specs.Prelude.{◌≡◌, ℕ, ◌<◌, ◌==◌, Bool, true, false, List, [], ◌∷◌, Option, None, Some, if◌then◌else◌}
use Rattle.station.specs.Shelves.{ShelfState}
use Rattle.socket_station.specs.declared.answers.Ready.{Ready}
use Rattle.socket_station.specs.declared.answers.Ready.TheVariants.{Opened, Socket as Seems}
use Rattle.socket_station.specs.Items.{Item, Failed, PollCall}
use Rattle.deposit_rules.specs.declared.phases.DepositPhase.TheVariants.{Giving, PollFault}
use Rattle.deposit_rules.specs.declared.line.DepositLine.{DepositLine}
use Rattle.deposit_rules.specs.Lines.{woken}
use Rattle.deposit_rules.specs.Views.{View}
use Rattle.deposit_rules.specs.Rules.{is_licensed}
use Rattle.live_deposit.specs.declared.deposit.Deposited.{Deposited}
use Rattle.live_deposit.specs.declared.deposit.Deposited.TheVariants as D
use Rattle.live_deposit.specs.Told.{IsTold}
use Rattle.live_deposit.specs.Going.{Grew}
use Rattle.live_deposit.specs.Logs.{ForLog}
use Rattle.live_deposit.specs.Serving.{GoesFor}
use Rattle.live_deposit.specs.Sending.{is_shelf_fault, LastPollFailed, StandsDeposited}

-- the line after a poll listed this
abbrev pub woken_at : DepositLine → Ready → DepositLine
woken_at w (Opened s) = w
woken_at w (Seems s) = if w.socket == s then woken w else w

-- nothing but that a poll failed is known
pub record IsFault (more : List Item) (v w : View) : Type 0 where
  pub fault : w.phase ≡ PollFault
  pub line : w.line ≡ v.line
  pub last : more ≡ Failed PollCall ∷ []

-- One poll was made, or failed. Where it is licensed for a log, what is told goes on.
pub record Polls (done : Bool) (before after : List Item) (v w : View) : Type 0 where
  pub more : List Item
  pub grew : Grew (if done then 1 else 0) before after more v w
  pub told : (log : List ℕ) → is_licensed log v ≡ true → IsTold log before v → IsTold log after w
  pub giving : done ≡ true → w.phase ≡ Giving
  pub fault : done ≡ false → IsFault more v w

-- how many polls a round makes that comes to this
abbrev pub polls_in : Option Deposited → ℕ
polls_in None = 1
polls_in (Some r) = 0

-- whether the shelf failed in it
abbrev pub is_round_failed : Option Deposited → Bool
is_round_failed None = false
is_round_failed (Some r) = is_shelf_fault r

-- why a round came to this, of which so many polls were left before it
abbrev pub StandsRound : (log : List ℕ) → (left : ℕ) → Option Deposited → (more : List Item) → View → Type 0
StandsRound log left None more w = Unit {0}
StandsRound log left (Some r) more w = StandsDeposited log left 0 r more w

-- all was done that may be done, and one poll made, unless it is said why not
pub record Rounds (name : List ℕ) (left : ℕ) (r : Option Deposited) (before after : List Item) (s t : ShelfState) (v w : View) : Type 0 where
  pub goes : GoesFor (polls_in r) name (is_round_failed r) before after s t v w
  pub on : r ≡ None → (w.phase ≡ Giving) × (0 < left)
  pub stands : ForLog s t (λ log. StandsRound log left r goes.more w)
  pub failed : r ≡ Some D.PollFault → LastPollFailed goes.more
