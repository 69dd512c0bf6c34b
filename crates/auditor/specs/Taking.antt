-- Taking: what an auditor takes of a log that comes in pieces.
use Rattle.std.specs.Prelude.{◌≡◌, ℕ, ◌≤◌, List, [], ◌∷◌, ◌++◌, Option, None, Some, drop}
use Rattle.definitions.specs.declared.logs.Entry.{Entry}
use Rattle.definitions.specs.World.{Game}
use Rattle.frame_index.specs.Appended.{with_entry}
use Rattle.session_log.specs.Fed.{Fed, IsFeedOf}
use Rattle.session_log.specs.Feeding.{LogFeeding, LogGiven, given_of}
use Rattle.auditor.specs.Audits.{AuditState, IsAuditOf, count_in, owner_in}

-- the logs with these entries at the end of that log
abbrev pub with_entries : List (List Entry) → ℕ → List Entry → List (List Entry)
with_entries logs i [] = logs
with_entries logs i (e ∷ es) = with_entries (with_entry logs i e) i es

-- what comes first, and then what is given behind it
abbrev pub given_behind : List Entry → LogGiven → LogGiven
given_behind es g = record { entries = es ++ g.entries; feeding = g.feeding }

-- an auditor that stood for logs stands for them with these entries at the end of that log
abbrev pub Takes : (before now : AuditState) → ℕ → List Entry → Type 0
Takes before now log es = (game : Game) (logs : List (List Entry)) → IsAuditOf game logs before → IsAuditOf game (with_entries logs log es) now

-- the feed has come somewhere in a log, and the auditor has no more entries of the log than the feed was fed bytes
pub record IsFeeding (a : AuditState) (log : ℕ) (r : Fed) : Type 0 where
  pub stands : (f : LogFeeding) × IsFeedOf r f
  pub counted : count_in a log ≤ r.used

-- the other logs are left alone
abbrev pub LeavesOthers : (before now : AuditState) → ℕ → Type 0
LeavesOthers before now log = (i : ℕ) → (i ≡ log → ⊥) → (count_in now i ≡ count_in before i) × (owner_in now i ≡ owner_in before i)

-- What the bytes give is these entries, and then what the rest of them gives.
abbrev pub ReadsOn : Game → (r r' : Fed) → (bytes rest : List ℕ) → List Entry → Type 0
ReadsOn game r r' bytes rest es = (f : LogFeeding) → IsFeedOf r f → (f' : LogFeeding) × IsFeedOf r' f' × (given_of game f bytes ≡ given_behind es (given_of game f' rest))

-- These entries are all that the bytes give, and the feed has come as far as they go.
abbrev pub ReadsAll : Game → (r r' : Fed) → List ℕ → List Entry → Type 0
ReadsAll game r r' bytes es = (f : LogFeeding) → IsFeedOf r f → ((given_of game f bytes).entries ≡ es) × IsFeedOf r' (given_of game f bytes).feeding

-- All entries that the bytes give were taken, and the feed has come as far as they go.
pub record TakesAll (game : Game) (before now : AuditState) (log : ℕ) (r r' : Fed) (bytes : List ℕ) (f : LogFeeding) : Type 0 where
  pub feed : IsFeedOf r' (given_of game f bytes).feeding
  pub taken : Takes before now log (given_of game f bytes).entries

-- The first of the entries were taken.
pub record TakesFront (before now : AuditState) (log : ℕ) (es : List Entry) : Type 0 where
  pub front : List Entry
  pub behind : List Entry
  pub parts : es ≡ front ++ behind
  pub taken : Takes before now log front

-- The first of the entries that the bytes give were taken.
abbrev pub TakesSome : Game → (before now : AuditState) → ℕ → List ℕ → LogFeeding → Type 0
TakesSome game before now log bytes f = TakesFront before now log (given_of game f bytes).entries

-- The first entries that the bytes give were taken, and what else they give is what those behind this place give; or all were taken.
abbrev pub TakesOn : Game → (before now : AuditState) → ℕ → (r r' : Fed) → List ℕ → ℕ → Option ℕ → Type 0
TakesOn game before now log r r' piece at None = (f : LogFeeding) → IsFeedOf r f → TakesAll game before now log r r' (drop at piece) f
TakesOn game before now log r r' piece at (Some next) =
    (f : LogFeeding) → IsFeedOf r f → (es : List Entry) × (f' : LogFeeding) × IsFeedOf r' f' × (given_of game f (drop at piece) ≡ given_behind es (given_of game f' (drop next piece))) × Takes before now log es
