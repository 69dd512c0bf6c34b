-- Fed: a reader of a log that comes in pieces, as contracts see it, and the bytes for which it stands.
use Rattle.std.specs.Prelude.{◌≡◌, ◌<◌, ℕ, ◌+◌, List, [], ◌∷◌, Bool, true, false, Option, Some, None, Result, Ok, Err, drop, length}
use Rattle.definitions.specs.declared.logs.Entry.{Entry}
use Rattle.session_log.specs.declared.faults.LogFault.{LogFault}
use Rattle.definitions.specs.declared.logs.LogWhy.{LogWhy}
use Rattle.definitions.specs.declared.logs.LogWhy.TheVariants.{TooLong, Torn, BadChain, BadEntry, NotReplayed}
use Rattle.definitions.specs.World.{Game}
use Rattle.session_log.specs.declared.finding.Found.{Found}
use Rattle.session_log.specs.declared.finding.Found.TheVariants as found
use Rattle.session_log.specs.declared.feed.LogFed.{LogFed}
use Rattle.session_log.specs.declared.feed.LogFedWhat.{LogFedWhat}
use Rattle.session_log.specs.declared.feed.LogFedWhat.TheVariants as what
use Rattle.session_log.specs.declared.feed.LogStep.{LogStep}
use Rattle.session_log.specs.declared.part.Part.{Part}
use Rattle.session_log.specs.Parts.{HoldsPart}
use Rattle.session_log.specs.Feeding.{FeedAnswer, FeedStep, LogFeeding, LogGiven, fed_step, given_of, given_on}
use Rattle.session_log.specs.Reading.{Answer, fault_at}

-- the owner, once a player's byte came, how many bytes were used, where the entry begun begins, what is kept of it, and the
-- fault, once one was met
pub record Fed : Type 0 where
  pub owner : Option ℕ
  pub used : ℕ
  pub at : ℕ
  pub part : Part
  pub fault : Option LogFault

-- This is how far the log came. Of an entry's bytes only a part is kept, so that several lists of bytes may fit: what a clause
-- says of one of them holds of each.
pub record IsFeedOf (r : Fed) (f : LogFeeding) : Type 0 where
  pub owner : r.owner ≡ f.owner
  pub at : r.at ≡ f.at
  pub fault : r.fault ≡ f.fault
  pub begun : f.owner ≡ None → f.held ≡ []
  pub used : f.fault ≡ None → r.used ≡ f.at + length f.held
  pub part : f.fault ≡ None → HoldsPart r.part f.chain f.held

-- what was found and how many bytes were used, where the room for the entry holds this one
abbrev pub what_as : Result Bool LogFault → Entry → Answer
what_as (Ok false) e = Ok None
what_as (Ok true) e = Ok (Some e)
what_as (Err fault) e = Err fault

abbrev pub fed_as : LogStep → Entry → FeedAnswer
fed_as s e = record { used = s.used; what = what_as s.what e }

-- this is how far the log came by the step, and this was answered
pub record IsStepOf (r : Fed) (fed : FeedAnswer) (s : FeedStep) : Type 0 where
  pub feed : IsFeedOf r s.feeding
  pub answer : fed ≡ s.fed

-- what is answered where this stands at the begin of the entry, and how far the log came then
abbrev pub what_found : ℕ → Found → Answer
what_found at found.Torn = Ok None
what_found at (found.Bad why) = Err (fault_at at why)
what_found at (found.Whole e count digest) = Ok (Some e)

abbrev pub after_found : Fed → Found → Fed
after_found r found.Torn = r
after_found r (found.Bad why) = record r { fault = Some (fault_at r.at why) }
after_found r (found.Whole e count digest) = record r { at = r.used }

-- an entry takes a byte at least, and a fault is kept exactly where it is answered
abbrev pub IsFedSo : Answer → ℕ → Fed → Type 0
IsFedSo (Ok None) used r = r.fault ≡ None
IsFedSo (Ok (Some e)) used r = (0 < used) × (r.fault ≡ None)
IsFedSo (Err fault) used r = r.fault ≡ Some fault

-- what these bytes give is what this feed found, and then what the rest of them gives
abbrev pub IsGivenFirst : Game → LogFeeding → List ℕ → FeedAnswer → Type 0
IsGivenFirst game f bytes fed = given_of game f bytes ≡ given_on fed.what (fed_step game f bytes).feeding (given_of game (fed_step game f bytes).feeding (drop fed.used bytes))

-- a feed meets no other fault
abbrev pub IsFeedWhy : LogWhy → Type 0
IsFeedWhy TooLong = ⊥
IsFeedWhy Torn = ⊥
IsFeedWhy BadChain = Unit {0}
IsFeedWhy BadEntry = Unit {0}
IsFeedWhy NotReplayed = ⊥

abbrev pub IsFeedFault : Option LogFault → Type 0
IsFeedFault None = Unit {0}
IsFeedFault (Some fault) = IsFeedWhy fault.why

-- ---- the same as it is told

abbrev pub what_by : LogWhy → ℕ → LogFedWhat
what_by TooLong at = what.BadEntry at
what_by Torn at = what.BadEntry at
what_by BadChain at = what.BadChain at
what_by BadEntry at = what.BadEntry at
what_by NotReplayed at = what.BadEntry at

abbrev pub what_of : Answer → LogFedWhat
what_of (Ok None) = what.More
what_of (Ok (Some e)) = what.Entry e
what_of (Err fault) = what_by fault.why fault.at

abbrev pub fed_of : FeedAnswer → LogFed
fed_of fed = record { used = fed.used; what = what_of fed.what }

-- this is how far the log came by the step, and this was told
pub record IsToldOf (r : Fed) (fed : LogFed) (s : FeedStep) : Type 0 where
  pub feed : IsFeedOf r s.feeding
  pub answer : fed ≡ fed_of s.fed

-- an entry takes a byte at least, and a fault is kept exactly where it is told
abbrev pub IsToldSo : LogFedWhat → ℕ → Fed → Type 0
IsToldSo what.More used r = r.fault ≡ None
IsToldSo (what.Entry e) used r = (0 < used) × (r.fault ≡ None)
IsToldSo (what.BadChain at) used r = r.fault ≡ Some (fault_at at BadChain)
IsToldSo (what.BadEntry at) used r = r.fault ≡ Some (fault_at at BadEntry)

-- what was given by a feed that told this, and by feeding what it left
abbrev pub given_told : LogFedWhat → LogFeeding → LogGiven → LogGiven
given_told what.More f behind = record { entries = []; feeding = f }
given_told (what.Entry e) f behind = record { entries = e ∷ behind.entries; feeding = behind.feeding }
given_told (what.BadChain at) f behind = record { entries = []; feeding = f }
given_told (what.BadEntry at) f behind = record { entries = []; feeding = f }

-- what these bytes give is what this feed told, and then what the rest of them gives
abbrev pub IsToldFirst : Game → LogFeeding → List ℕ → LogFed → Type 0
IsToldFirst game f bytes fed = given_of game f bytes ≡ given_told fed.what (fed_step game f bytes).feeding (given_of game (fed_step game f bytes).feeding (drop fed.used bytes))
