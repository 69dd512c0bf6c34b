-- Pages: how far one player's log came, and what bytes that come make of it.
use Rattle.std.specs.Prelude.{◌≡◌, ℕ, ◌≤◌, Bool, ◌==◌, ◌&&◌, List, ◌++◌, Option, Some, None, if◌then◌else◌}
use Rattle.definitions.specs.declared.limits.TheConstants.{LONGEST_LOG}
use Rattle.definitions.specs.declared.logs.Entry.{Entry}
use Rattle.definitions.specs.World.{Game}
use Rattle.session_log.specs.declared.faults.LogFault.{LogFault}
use Rattle.session_log.specs.Fed.{IsFeedOf}
use Rattle.auditor.specs.Audits.{AuditState, count_in, owner_in}
use Rattle.auditor.specs.Taking.{LeavesOthers, Takes}
use Rattle.log_streams.specs.Streams.{Stream, count_of, entries_of, feeding_of, is_others, owner_of}
use Rattle.log_books.specs.declared.pages.Page.{Page}

-- these are the first bytes of the log, and of another player
abbrev pub begins_others : Page → (q : ℕ) → List ℕ → Bool
begins_others p q bytes = (p.count == 0) && is_others q bytes

-- the page is as far as the stream, and the auditor has no more entries than bytes came
pub record IsPageOf (game : Game) (a : AuditState) (q : ℕ) (s : Stream) (p : Page) : Type 0 where
  pub closed : p.is_closed ≡ s.is_closed
  pub count : p.count ≡ count_of s
  pub most : p.count ≤ LONGEST_LOG
  pub feed : IsFeedOf p.feed (feeding_of game s.pieces)
  pub used : p.feed.used ≤ p.count
  pub counted : count_in a q ≤ p.feed.used

-- the page went on from one stream to the next, and the auditor took the entries that are more in
-- it
pub record GoesOn (game : Game) (a b : AuditState) (q : ℕ) (s t : Stream) (p : Page) : Type 0 where
  pub page : IsPageOf game b q t p
  pub more : List Entry
  pub entries : entries_of game t ≡ entries_of game s ++ more
  pub taken : Takes a b q more
  pub owner : owner_in a q ≡ owner_of game s → owner_in b q ≡ owner_of game t
  pub session : b.session ≡ a.session
  pub others : LeavesOthers a b q

-- where a log is closed that has this fault; a log without one is closed by its first byte, which
-- is another player's
abbrev pub closing_byte : Option LogFault → ℕ
closing_byte None = 0
closing_byte (Some fault) = fault.at

-- where the stream was closed: at the byte where the entry with its fault begins, at its first
-- byte, or at the end of a log that has as many bytes as a log may have
abbrev pub closed_at : Game → Stream → Option ℕ
closed_at game s =
    if s.is_closed then Some (closing_byte (feeding_of game s.pieces).fault)
    else if count_of s == LONGEST_LOG then Some (count_of s)
    else None
