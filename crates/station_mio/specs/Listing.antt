-- Listing: what a poll makes of the tokens that were ready.
use Rattle.std.specs.Prelude.{ℕ, ◌==◌, ◌^◌, List, [], ◌∷◌, ◌++◌, is_some, length, nat_lt, if◌then◌else◌}
use Rattle.std.specs.List.{fold}
use Rattle.socket_station.specs.declared.answers.Ready.{Ready}
use Rattle.socket_station.specs.declared.answers.Ready.TheVariants.{Socket as Seems}
use Rattle.socket_station.specs.declared.ready_list.TheConstants.{MOST_READY}
use Rattle.machine_host.specs.declared.hosts.TheConstants.{LISTENER}
use Rattle.station_mio.specs.declared.backlog.Backlog.{Backlog}
use Rattle.station_mio.specs.declared.backlog.Backlog.TheVariants as B
use Rattle.station_mio.specs.Rows.{Stand, Due, Dialled, Up, Lost, raised, stand_in}

-- one more is listed, where there is room
abbrev pub listed : List Ready → ℕ → List Ready
listed list n = if nat_lt (length list) MOST_READY then list ++ Seems n ∷ [] else list

-- what a poll has seen so far
pub record Seen : Type 0 where
  pub stands : List Stand
  pub backlog : Backlog
  pub list : List Ready

abbrev pub seen_of : List Stand → Backlog → List Ready → Seen
seen_of stands backlog list = record { stands = stands; backlog = backlog; list = list }

-- a token of this socket was ready: it stands, and is listed; one that is gone says nothing
abbrev pub ready_on : Seen → (n : ℕ) → Seen
ready_on seen n =
    seen_of (raised n seen.stands) seen.backlog
    (if is_some (stand_in n seen.stands) then listed seen.list n else seen.list)

-- a token was ready: connections wait, or it is that of a socket
abbrev pub report : Seen → (token : ℕ) → Seen
report seen token =
    if token == LISTENER then seen_of seen.stands B.Waiting seen.list
    else if nat_lt token (2 ^ 32) then ready_on seen token
    else seen

abbrev pub report_all : Seen → (tokens : List ℕ) → Seen
report_all seen tokens = fold report seen tokens

-- those that are lost are listed too
abbrev pub listed_lost : List Ready → Stand → List Ready
listed_lost list (Due n addr time) = list
listed_lost list (Dialled n time) = list
listed_lost list (Up n) = list
listed_lost list (Lost n) = listed list n

abbrev pub listed_all_lost : List Ready → List Stand → List Ready
listed_all_lost list stands = fold listed_lost list stands
