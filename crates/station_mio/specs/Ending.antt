-- Ending: what the machine is asked at the end.
use Rattle.std.specs.Prelude.{◌≡◌, ℕ, List, [], ◌∷◌, ◌++◌, Option, Some, slice_get}
use Rattle.machine_host.specs.declared.faults.HostFault.{HostFault}
use Rattle.machine_host.specs.Asks.{Ask, Clock, Closed, Read, Selected, Waited, WritesEnded}
use Rattle.station_mio.specs.Rows.{Stand, Due, Dialled, Up, Lost}

-- what comes is read, a socket is closed, or the machine waits until more comes
abbrev pub IsLinger : Ask → Type 0
IsLinger (Clock answer) = Unit {0}
IsLinger (Selected answer) = Unit {0}
IsLinger (Waited millis answer) = Unit {0}
IsLinger (Read n answer) = Unit {0}
IsLinger (Closed n) = Unit {0}
IsLinger _ = ⊥

abbrev pub AreLingers : List Ask → Type 0
AreLingers [] = Unit {0}
AreLingers (ask ∷ asks) = IsLinger ask × AreLingers asks

-- nothing else was asked for
abbrev pub Lingers : (before after : List Ask) → Type 0
Lingers before after = (more : List Ask) × (after ≡ before ++ more) × AreLingers more

-- the write side of a socket is ended, once it is dialled
abbrev pub Ends : Stand → (before after : List Ask) → Type 0
Ends (Due n addr time) before after = after ≡ before
Ends (Dialled n time) before after = (fault : Option HostFault) × (after ≡ before ++ WritesEnded n fault ∷ [])
Ends (Up n) before after = (fault : Option HostFault) × (after ≡ before ++ WritesEnded n fault ∷ [])
Ends (Lost n) before after = after ≡ before

abbrev pub EndsAt : (place : ℕ) → List Stand → (before after : List Ask) → Type 0
EndsAt place stands before after = (s : Stand) × (slice_get stands place ≡ Some s) × Ends s before after

-- those of all sockets are, one after the other
abbrev pub EndsAll : List Stand → (before after : List Ask) → Type 0
EndsAll [] before after = after ≡ before
EndsAll (s ∷ stands) before after = (middle : List Ask) × Ends s before middle × EndsAll stands middle after

-- at the end the write sides are ended first of all, and then it lingers
abbrev pub Finishes : List Stand → (before after : List Ask) → Type 0
Finishes stands before after = (ended : List Ask) × EndsAll stands before ended × Lingers ended after
