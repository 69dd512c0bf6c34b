-- Resuming: a peer that goes on from the entries of a log.
use Rattle.std.specs.Prelude.{◌≡◌, ℕ, ◌+◌, ◌<◌, List, [], ◌∷◌, ◌++◌, Option, Some, None, Result, Ok, Err, length, take, if◌then◌else◌}
use Rattle.definitions.specs.declared.logs.Entry.{Entry}
use Rattle.definitions.specs.World.{Game}
use Rattle.definitions.specs.Honest.{IsHonest, allowed}
use Rattle.peer_core.specs.declared.resuming.ResumeFault.{ResumeFault}
use Rattle.peer_core.specs.declared.resuming.ResumeFault.TheVariants.{NotReplayed, Memory}
use Rattle.peer_core.specs.Views.{PeerState}

-- the number of the first of these entries that may not follow the log g and those before it, if there is one
abbrev pub first_not_replayed : Game → ℕ → (g es : List Entry) → Option ℕ
first_not_replayed game me g [] = None
first_not_replayed game me g (e ∷ es) =
    if allowed game me g e then first_not_replayed game me (g ++ e ∷ []) es else Some (length g)

-- the log with the entry, where it may come next
abbrev pub with_allowed : Game → ℕ → List Entry → Entry → List Entry
with_allowed game me h e = if allowed game me h e then h ++ e ∷ [] else h

-- the peer's log is these entries, and each may follow those before it
pub record HasReplayed (game : Game) (me : ℕ) (entries : List Entry) (p : PeerState) : Type 0 where
  pub log : p ≡ record { game = game; me = me; entries = entries }
  pub none : first_not_replayed game me [] entries ≡ None

-- the fault names the first entry that may not follow those before it; of memory nothing is said
abbrev pub IsFault : Game → ℕ → List Entry → ResumeFault → Type 0
IsFault game me entries (NotReplayed i) = first_not_replayed game me [] entries ≡ Some i
IsFault game me entries Memory = Unit {0}

-- what becomes of these entries
abbrev pub Resumes : Game → ℕ → List Entry → Result PeerState ResumeFault → Type 0
Resumes game me entries (Ok p) = HasReplayed game me entries p
Resumes game me entries (Err fault) = IsFault game me entries fault

-- the entries before the one of this number are honest, and with it they aren't
pub record IsFirstBreach (game : Game) (me : ℕ) (entries : List Entry) (i : ℕ) : Type 0 where
  pub within : i < length entries
  pub before : IsHonest game me (take i entries)
  pub breach : IsHonest game me (take (i + 1) entries) → ⊥

-- the fault's entry is the first breach
abbrev pub NamesTheFirst : Game → ℕ → List Entry → ResumeFault → Type 0
NamesTheFirst game me entries (NotReplayed i) = IsFirstBreach game me entries i
NamesTheFirst game me entries Memory = Unit {0}
