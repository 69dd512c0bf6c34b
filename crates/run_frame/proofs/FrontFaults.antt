-- FrontFaults: a file whose front was not read.
use Rattle.std.proofs.Common.{List, ℕ, Option}
use Rattle.std.specs.Prelude.{Result, Err}
use Rattle.definitions.specs.World.{Game}
use Rattle.station.specs.Shelves.{ShelfState}
use Rattle.line_io.specs.Fronts.{Fetched, ReadsFront}
use Rattle.line_io.specs.declared.fronts.FrontFault.{FrontFault}
use Rattle.line_io.specs.declared.fronts.FrontFault.TheVariants.{NoMemory, Failed}
use Rattle.run_frame.specs.Faults.{status_of_front}
use Rattle.run_frame.specs.Frame.{is_input_fault}
use Rattle.run_frame.specs.Opening.{IsDueFor, Opens}
use Rattle.run_frame.specs.Sessions.{IsDue, OpensSession}
use Rattle.run_frame.specs.declared.statuses.Status.{Status}

-- the status tells of the shelf's fault exactly where it failed
pub front_fetched : (a b : ShelfState) (name : List ℕ) (limit : ℕ) (fault : FrontFault) → ReadsFront a b name limit (Err fault) → Fetched a b name (is_input_fault (status_of_front fault))
front_fetched a b name limit NoMemory r = r.fetched
front_fetched a b name limit Failed r = r.fetched

-- and so no session, or nothing else, was read
session_unread : (due : Result Game Status) (fault : FrontFault) → IsDue due (Err (status_of_front fault))
session_unread due NoMemory = tt
session_unread due Failed = tt

pub front_unread : {T : Type 0} (due : Result T Status) (fault : FrontFault) → IsDueFor due (Err (status_of_front fault))
front_unread due NoMemory = tt
front_unread due Failed = tt

pub no_session_read : (a b : ShelfState) (name : List ℕ) (limit : ℕ) (fault : FrontFault) → ReadsFront a b name limit (Err fault) → OpensSession a b name (Err (status_of_front fault))
no_session_read a b name limit fault r = record { fetched = front_fetched a b name limit fault r; due = λ content h. session_unread _ fault }

pub nothing_opened : {T : Type 0} (a b : ShelfState) (name : List ℕ) (limit : ℕ) (fault : FrontFault) (due : Option (List ℕ) → Result T Status) → ReadsFront a b name limit (Err fault) →
    Opens a b name (is_input_fault (status_of_front fault)) (λ content. IsDueFor (due content) (Err (status_of_front fault)))
nothing_opened a b name limit fault due r = record { fetched = front_fetched a b name limit fault r; due = λ content h. front_unread (due content) fault }
