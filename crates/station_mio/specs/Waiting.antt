-- Waiting: how long a poll may wait, and when a player may be dialled.
use Rattle.std.specs.Prelude.{◌≡◌, ℕ, ◌+◌, ◌-◌, ◌^◌, min, List, [], ◌∷◌, ◌++◌, Result, Ok, Err}
use Rattle.std.specs.List.{fold}
use Rattle.machine_host.specs.declared.faults.HostFault.{HostFault}
use Rattle.machine_host.specs.Asks.{Ask, Clock}
use Rattle.station_mio.specs.declared.pace.TheConstants.{PAUSE}
use Rattle.station_mio.specs.declared.backlog.Backlog.{Backlog}
use Rattle.station_mio.specs.declared.backlog.Backlog.TheVariants as B
use Rattle.station_mio.specs.Rows.{Stand, Due, Dialled, Up, Lost}

-- the greatest time: that of a clock that can't be read, at which everything is due
abbrev pub LAST_TIME : ℕ
LAST_TIME = 2 ^ 64 - 1

-- the time that the clock answered
abbrev pub time_of : Result ℕ HostFault → ℕ
time_of (Ok millis) = millis
time_of (Err fault) = LAST_TIME

-- the clock was asked, and it is so late
pub record Ticks (before after : List Ask) (now : ℕ) : Type 0 where
  pub answer : Result ℕ HostFault
  pub asked : after ≡ before ++ Clock answer ∷ []
  pub time : now ≡ time_of answer

-- so many milliseconds after a time
abbrev pub after_by : (time millis : ℕ) → ℕ
after_by time millis = min (time + millis) LAST_TIME

-- how long a poll may wait for the sake of one socket
abbrev pub patience_for : (now : ℕ) → Stand → ℕ
patience_for now (Due n addr time) = time - now
patience_for now (Dialled n time) = time - now
patience_for now (Up n) = PAUSE
patience_for now (Lost n) = 0

-- a poll waits at most a pause, and for no socket longer than it may
abbrev pub patience_of : (now : ℕ) → List Stand → ℕ
patience_of now stands = fold (λ least stand. min least (patience_for now stand)) PAUSE stands

-- and not at all where connections may wait
abbrev pub patience_with : Backlog → (now : ℕ) → List Stand → ℕ
patience_with B.Waiting now stands = 0
patience_with B.Empty now stands = patience_of now stands
patience_with B.Refused now stands = patience_of now stands
