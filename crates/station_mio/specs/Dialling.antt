-- Dialling: how sockets go on that are due.
use Rattle.std.specs.Prelude.{◌≡◌, ◌⊎◌, ℕ, ◌+◌, Bool, true, false, List, [], ◌∷◌, ◌++◌, Some, nat_le, slice_get, take, drop}
use Rattle.socket_station.specs.declared.answers.Addr.{Addr}
use Rattle.machine_host.specs.Asks.{Ask, Closed}
use Rattle.station_mio.specs.declared.pace.TheConstants.{PATIENCE}
use Rattle.station_mio.specs.Rows.{Stand, Due, Dialled, Up, Lost}
use Rattle.station_mio.specs.Waiting.{after_by}
use Rattle.station_mio.specs.Asking.{Connects}

-- a socket is dialled now: it has some time to be answered, or it is lost
abbrev pub Begins : (now n : ℕ) → Addr → Stand → (before after : List Ask) → Type 0
Begins now n addr t before after =
    ((t ≡ Dialled n (after_by now PATIENCE)) × Connects n addr true before after)
    ⊎ ((t ≡ Lost n) × Connects n addr false before after)

-- one that is to be dialled is dialled where that is due, at the address that it was opened for
abbrev pub GoesDue : (is_due : Bool) → (now n : ℕ) → Addr → (time : ℕ) → Stand → (before after : List Ask) → Type 0
GoesDue true now n addr time t before after = Begins now n addr t before after
GoesDue false now n addr time t before after = (t ≡ Due n addr time) × (after ≡ before)

-- one that was dialled is given up, and closed, where it had no answer in time
abbrev pub GoesDialled : (is_due : Bool) → (n time : ℕ) → Stand → (before after : List Ask) → Type 0
GoesDialled true n time t before after = (t ≡ Lost n) × (after ≡ before ++ Closed n ∷ [])
GoesDialled false n time t before after = (t ≡ Dialled n time) × (after ≡ before)

-- a socket goes on
abbrev pub GoesOn : (now : ℕ) → (s t : Stand) → (before after : List Ask) → Type 0
GoesOn now (Due n addr time) t before after = GoesDue (nat_le time now) now n addr time t before after
GoesOn now (Dialled n time) t before after = GoesDialled (nat_le time now) n time t before after
GoesOn now (Up n) t before after = (t ≡ Up n) × (after ≡ before)
GoesOn now (Lost n) t before after = (t ≡ Lost n) × (after ≡ before)

-- all of them go on, one after the other
abbrev pub GoesOnAll : (now : ℕ) → (ss ts : List Stand) → (before after : List Ask) → Type 0
GoesOnAll now [] [] before after = after ≡ before
GoesOnAll now [] (t ∷ ts) before after = ⊥
GoesOnAll now (s ∷ ss) [] before after = ⊥
GoesOnAll now (s ∷ ss) (t ∷ ts) before after =
    (middle : List Ask) × GoesOn now s t before middle × GoesOnAll now ss ts middle after

-- the one at this place goes on
abbrev pub GoesOnAt : (now place : ℕ) → (ss ts : List Stand) → (before after : List Ask) → Type 0
GoesOnAt now place ss ts before after =
    (s : Stand) × (t : Stand) × (slice_get ss place ≡ Some s) ×
    (ts ≡ take place ss ++ t ∷ drop (place + 1) ss) × GoesOn now s t before after
