-- Accepting: new sockets for the connections that wait.
use Rattle.std.specs.Prelude.{◌≡◌, ◌⊎◌, ℕ, true, false, List, [], ◌∷◌, ◌++◌, Some, None}
use Rattle.machine_host.specs.declared.faults.HostFault.{HostFault}
use Rattle.machine_host.specs.Asks.{Ask, Accepted}
use Rattle.station_mio.specs.declared.accepting.Outcome.{Outcome}
use Rattle.station_mio.specs.declared.accepting.Outcome.TheVariants.{Came, Nobody, Refused}
use Rattle.station_mio.specs.Asking.{Enrolls, would_block}

-- the next connection that waits is a socket of this number from now on
abbrev pub Comes : ℕ → (before after : List Ask) → Type 0
Comes n before after = Enrolls n true (before ++ Accepted n None ∷ []) after

-- none waits
abbrev pub FindsNobody : ℕ → (before after : List Ask) → Type 0
FindsNobody n before after =
    (fault : HostFault) × (would_block fault ≡ true) × (after ≡ before ++ Accepted n (Some fault) ∷ [])

-- one couldn't be accepted, or not be watched
abbrev pub IsRefused : ℕ → (before after : List Ask) → Type 0
IsRefused n before after =
    ((fault : HostFault) × (would_block fault ≡ false) × (after ≡ before ++ Accepted n (Some fault) ∷ []))
    ⊎ Enrolls n false (before ++ Accepted n None ∷ []) after

abbrev pub Accepts : {S : Type 0} → ℕ → Outcome S → (before after : List Ask) → Type 0
Accepts n (Came stream) before after = Comes n before after
Accepts n Nobody before after = FindsNobody n before after
Accepts n Refused before after = IsRefused n before after

-- the new socket has the number
abbrev pub IsNumbered : {S : Type 0} → (S → ℕ) → ℕ → Outcome S → Type 0
IsNumbered number n (Came stream) = number stream ≡ n
IsNumbered number n Nobody = Unit {0}
IsNumbered number n Refused = Unit {0}
