-- Stations: what the calls of a station ask the machine and answer.
use Rattle.std.specs.Prelude.{◌≡◌, ℕ, Bool, true, false, List, Option, Result, is_ok}
use Rattle.socket_station.specs.declared.answers.Addr.{Addr}
use Rattle.socket_station.specs.declared.answers.Did.{Did}
use Rattle.socket_station.specs.declared.answers.Did.TheVariants.{Done, Failed}
use Rattle.machine_host.specs.declared.faults.HostFault.{HostFault}
use Rattle.host_log.specs.Logs as L
use Rattle.station_mio.specs.Nets.{Net, Listens}

-- what is answered to what was done, or wasn't
abbrev pub did_by : Bool → Did
did_by true = Done
did_by false = Failed

abbrev pub did_of : Result (Unit {0}) HostFault → Did
did_of made = did_by (is_ok made)

-- it listens at the address that it was asked for
abbrev pub ListensTo : Addr → Did → (a b : Net) → Type 0
ListensTo addr did a b = (made : Result (Unit {0}) HostFault) × Listens addr made a b × (did ≡ did_of made)

-- the calls of the log ask the machine for what they ask it for, and no socket changes
abbrev pub LogsTo : (name : List ℕ) → (was_begun is_done : Bool) → (a b : Net) → Type 0
LogsTo name begun is_done a b = L.LogsTo name begun is_done a.asks b.asks × (b ≡ record a { asks = b.asks })

abbrev pub Keeps : (bytes : List ℕ) → (log : Option Bool) → (is_done : Bool) → (a b : Net) → Type 0
Keeps bytes log is_done a b = L.Keeps bytes log is_done a.asks b.asks × (b ≡ record a { asks = b.asks })

abbrev pub SyncsTo : (log : Option Bool) → (is_done : Bool) → (a b : Net) → Type 0
SyncsTo log is_done a b = L.SyncsTo log is_done a.asks b.asks × (b ≡ record a { asks = b.asks })
