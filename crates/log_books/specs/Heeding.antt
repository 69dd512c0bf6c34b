-- Heeding: what becomes of the agreed turns as a player's entries come.
use Rattle.std.specs.Prelude.{◌≡◌, ℕ, ◌<◌, ◌-◌, List, ◌++◌, length, Option, None, Some, drop, slice_get, set}
use Rattle.definitions.specs.declared.logs.Entry.{Entry}
use Rattle.definitions.specs.Entries.{AreWellFormed}
use Rattle.definitions.specs.World.{Game}
use Rattle.frame_index.specs.declared.limits.TheConstants.{MOST_LOGS}
use Rattle.session_log.specs.Fed.{Fed, IsFeedOf}
use Rattle.session_log.specs.Feeding.{LogFeeding, given_of}
use Rattle.agreed_turns.specs.States.{AgreedState, IsOf}
use Rattle.auditor.specs.Audits.{AuditState, IsAuditOf, padded}
use Rattle.auditor.specs.Taking.{Takes, given_behind}
use Rattle.log_streams.specs.Streams.{Stream, count_of, entries_of, owner_of}

-- the log is the player's own, once a byte of it came
abbrev pub IsOwn : Game → ℕ → Stream → Type 0
IsOwn game q s = 0 < count_of s → owner_of game s ≡ Some q

-- The agreed turns of lists of which this player's was the one are those with these entries more. The auditor is that of the lists before.
abbrev pub HeedsMore : Game → AuditState → (g h : AgreedState) → ℕ → List Entry → Type 0
HeedsMore game a g h q es = (lists : List (List Entry)) (own : List Entry) → IsAuditOf game (padded lists (MOST_LOGS - length lists)) a → slice_get lists q ≡ Some own → AreWellFormed game q (own ++ es) →
    IsOf game lists g → IsOf game (set lists q (own ++ es)) h

-- the auditor took the entries of the player's log, and they were heeded
pub record Comes (game : Game) (a b : AuditState) (g h : AgreedState) (q : ℕ) (es : List Entry) : Type 0 where
  pub taken : Takes a b q es
  pub heeded : HeedsMore game a g h q es

-- so it is with all entries that the bytes give, and the feed has come as far as they go
pub record ComesAll (game : Game) (a b : AuditState) (g h : AgreedState) (q : ℕ) (r r' : Fed) (bytes : List ℕ) (f : LogFeeding) : Type 0 where
  pub feed : IsFeedOf r' (given_of game f bytes).feeding
  pub came : Comes game a b g h q (given_of game f bytes).entries

-- so it is with the first of them, and what else the bytes give is what those from this place on give; or with all
abbrev pub ComesOn : Game → (a b : AuditState) → (g h : AgreedState) → ℕ → (r r' : Fed) → List ℕ → ℕ → Option ℕ → Type 0
ComesOn game a b g h q r r' piece at None = (f : LogFeeding) → IsFeedOf r f → ComesAll game a b g h q r r' (drop at piece) f
ComesOn game a b g h q r r' piece at (Some next) = (f : LogFeeding) → IsFeedOf r f →
    (es : List Entry) × (f' : LogFeeding) × IsFeedOf r' f' × (given_of game f (drop at piece) ≡ given_behind es (given_of game f' (drop next piece))) × Comes game a b g h q es

-- the agreed turns of lists of which this player's was that of the one stream are those with that of the other one in its place
pub record Heeds (game : Game) (a : AuditState) (g h : AgreedState) (q : ℕ) (s t : Stream) : Type 0 where
  pub own : IsOwn game q t
  pub lists_are : (lists : List (List Entry)) → IsAuditOf game (padded lists (MOST_LOGS - length lists)) a → slice_get lists q ≡ Some (entries_of game s) → IsOf game lists g → IsOf game (set lists q (entries_of game t)) h
