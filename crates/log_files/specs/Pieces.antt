-- Pieces: what one call for a piece of a log's file comes to.
use Rattle.std.specs.Prelude.{◌≡◌, ℕ, ◌+◌, ◌<◌, ◌≤◌, List, [], Option, Some, None, Result, Ok, Err, length}
use Rattle.definitions.specs.declared.limits.TheConstants.{LOG_FRONT, LONGEST_LOG}
use Rattle.definitions.specs.declared.logs.LogWhy.TheVariants.{TooLong}
use Rattle.station.specs.Shelves.{ShelfState}
use Rattle.line_io.specs.Fronts.{IsCall}
use Rattle.session_log.specs.Fed.{Fed, IsFeedOf}
use Rattle.session_log.specs.Feeding.{LogFeeding}
use Rattle.session_log.specs.Reading.{fault_at}
use Rattle.auditor.specs.Audits.{AuditState, owner_in}
use Rattle.auditor.specs.Taking.{IsFeeding, TakesAll, TakesSome}
use Rattle.log_files.specs.declared.faults.FileFault.{FileFault}
use Rattle.log_files.specs.declared.faults.FileFault.TheVariants.{Bad, Failed, Memory}

-- All that these bytes give was taken, and the feed has come as far as they go.
pub record TakesBytes (a a' : AuditState) (log : ℕ) (r r' : Fed) (bytes : List ℕ) : Type 0 where
  pub all : (f : LogFeeding) → IsFeedOf r f → TakesAll a.session a a' log r r' bytes f
  pub feeding : IsFeeding a' log r'
  pub used : r'.used ≤ r.used + length bytes
  pub owner : owner_in a' log ≡ r'.owner

-- One call for the file of this name, at this place: it gave bytes, at least one, which were taken; the
-- file has ended; with these bytes it is too long; the call failed; or the first entries that the bytes give were taken, and then
-- memory was wanting. No further than a byte past the longest log is asked for. In the three
-- cases between, the auditor is as it was.
abbrev pub TakesPiece : (before now : ShelfState) → (name : List ℕ) → (a a' : AuditState) → (log : ℕ) → (r r' : Fed) → (at : ℕ) → Result (Option ℕ) FileFault → Type 0
TakesPiece before now name a a' log r r' at (Ok (Some count)) =
    (bytes : List ℕ) × IsCall before now name at (Some bytes) × (0 < count) × (count ≡ length bytes) × (at + count ≤ LONGEST_LOG) × TakesBytes a a' log r r' bytes
TakesPiece before now name a a' log r r' at (Ok None) = IsCall before now name at (Some []) × (a' ≡ a) × (r' ≡ r)
TakesPiece before now name a a' log r r' at (Err (Bad fault)) =
    (bytes : List ℕ) × IsCall before now name at (Some bytes) × (LONGEST_LOG < at + length bytes) × (at + length bytes ≤ LOG_FRONT) × (a' ≡ a) × (fault ≡ fault_at LONGEST_LOG TooLong)
TakesPiece before now name a a' log r r' at (Err Failed) = IsCall before now name at None × (a' ≡ a)
TakesPiece before now name a a' log r r' at (Err Memory) =
    (bytes : List ℕ) × IsCall before now name at (Some bytes) × (at + length bytes ≤ LONGEST_LOG) × ((f : LogFeeding) → IsFeedOf r f → TakesSome a.session a a' log bytes f)
