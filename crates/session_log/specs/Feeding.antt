-- Feeding: what a reader of a log that comes in pieces does with the next bytes, and what all pieces give.
use Rattle.std.specs.Prelude.{ℕ, zero, suc, ◌+◌, ◌-◌, List, [], ◌∷◌, ◌++◌, Option, Some, None, Ok, Err, drop, length, nat_lt, ◌==◌, if◌then◌else◌}
use Rattle.definitions.specs.declared.logs.Entry.{Entry}
use Rattle.session_log.specs.declared.faults.LogFault.{LogFault}
use Rattle.definitions.specs.declared.logs.LogWhy.TheVariants.{Torn, BadEntry}
use Rattle.definitions.specs.World.{Game, players_of}
use Rattle.session_log.specs.declared.finding.Found.{Found}
use Rattle.session_log.specs.declared.finding.Found.TheVariants as found
use Rattle.session_log.specs.Spelling.{first_chain}
use Rattle.session_log.specs.Entries.{told_len}
use Rattle.session_log.specs.Finding.{entry_at}
use Rattle.session_log.specs.Reading.{Ending, Answer, fault_at}

-- a log that comes in pieces: the owner, once a player's byte came, where the entry begun begins, the digest before it (or what
-- stands for it), the bytes of it that came, and the fault, once one was met
pub record LogFeeding : Type 0 where
  pub owner : Option ℕ
  pub at : ℕ
  pub chain : List ℕ
  pub held : List ℕ
  pub fault : Option LogFault

-- no byte came yet
abbrev pub feed_at_start : List ℕ → LogFeeding
feed_at_start id = record { owner = None; at = 0; chain = id; held = []; fault = None }

-- the owner's byte came, and the first entry begins behind it
abbrev pub feed_of : LogFeeding → ℕ → LogFeeding
feed_of f me = record { owner = Some me; at = f.at + 1; chain = first_chain f.chain me; held = []; fault = None }

-- What a feed answers: how many bytes it used, and what comes next of the log. Nothing comes where
-- all bytes were used and end no entry.
pub record FeedAnswer : Type 0 where
  pub used : ℕ
  pub what : Answer

-- a log after a feed, and what was answered
pub record FeedStep : Type 0 where
  pub feeding : LogFeeding
  pub fed : FeedAnswer

-- all bytes were used, and end no entry
abbrev pub more_step : LogFeeding → List ℕ → FeedStep
more_step f bytes = record {
  feeding = record { owner = f.owner; at = f.at; chain = f.chain; held = f.held ++ bytes; fault = f.fault };
  fed = record { used = length bytes; what = Ok None };
}

-- a fault was met
abbrev pub fault_step : LogFeeding → ℕ → LogFault → FeedStep
fault_step f used x = record {
  feeding = record { owner = f.owner; at = f.at; chain = f.chain; held = []; fault = Some x };
  fed = record { used = used; what = Err x };
}

-- an entry of so many bytes came
abbrev pub entry_step : LogFeeding → Entry → ℕ → List ℕ → FeedStep
entry_step f e count digest = record {
  feeding = record { owner = f.owner; at = f.at + count; chain = digest; held = []; fault = None };
  fed = record { used = count - length f.held; what = Ok (Some e) };
}

-- the step where, with these bytes, this is what stands at the begin of the entry, which has so many bytes
abbrev pub step_by_found : LogFeeding → List ℕ → ℕ → Found → FeedStep
step_by_found f bytes count found.Torn = more_step f bytes
step_by_found f bytes count (found.Bad why) = fault_step f (count - length f.held) (fault_at f.at why)
step_by_found f bytes count (found.Whole e n digest) = entry_step f e n digest

-- the step on an entry of the owner's log
abbrev pub entry_fed : Game → ℕ → LogFeeding → List ℕ → FeedStep
entry_fed game me f bytes = step_by_found f bytes (told_len (f.held ++ bytes) + 35) (entry_at game me f.chain (f.held ++ bytes))

-- the same with a byte more before it
abbrev pub one_more : FeedStep → FeedStep
one_more s = record { feeding = s.feeding; fed = record { used = s.fed.used + 1; what = s.fed.what } }

-- the step where no byte came yet
abbrev pub first_fed : Game → LogFeeding → List ℕ → FeedStep
first_fed game f [] = more_step f []
first_fed game f (me ∷ bytes) = if nat_lt me (players_of game) then one_more (entry_fed game me (feed_of f me) bytes) else fault_step f 1 (fault_at 0 BadEntry)

abbrev pub fed_by_owner : Game → Option ℕ → LogFeeding → List ℕ → FeedStep
fed_by_owner game None f bytes = first_fed game f bytes
fed_by_owner game (Some me) f bytes = entry_fed game me f bytes

abbrev pub fed_unless : Option LogFault → LogFeeding → FeedStep → FeedStep
fed_unless None f s = s
fed_unless (Some x) f s = record { feeding = f; fed = record { used = 0; what = Err x } }

-- what a feed of these bytes does: a fault that was met stays
unfoldable pub fed_step : Game → LogFeeding → List ℕ → FeedStep
fed_step game f bytes = fed_unless f.fault f (fed_by_owner game f.owner f bytes)

-- how a log ends where no entry begins: a log of the owner's byte alone is torn
abbrev pub end_at : ℕ → Ending
end_at at = if at == 1 then Err (fault_at 0 Torn) else Ok tt

-- how it ends behind these bytes of an entry
abbrev pub torn_at : ℕ → List ℕ → Ending
torn_at at [] = end_at at
torn_at at (b ∷ bytes) = Err (fault_at at Torn)

abbrev pub end_by_owner : Option ℕ → ℕ → List ℕ → Ending
end_by_owner None at held = Ok tt
end_by_owner (Some me) at held = torn_at at held

abbrev pub end_unless : Option LogFault → Ending → Ending
end_unless None end = end
end_unless (Some x) end = Err x

-- how the log ends if no more bytes come
abbrev pub finished : LogFeeding → Ending
finished f = end_unless f.fault (end_by_owner f.owner f.at f.held)

-- the entries that feeds gave, and the log after them
pub record LogGiven : Type 0 where
  pub entries : List Entry
  pub feeding : LogFeeding

-- what was given by a feed, and by feeding what it left
abbrev pub given_on : Answer → LogFeeding → LogGiven → LogGiven
given_on (Ok None) f behind = record { entries = []; feeding = f }
given_on (Ok (Some e)) f behind = record { entries = e ∷ behind.entries; feeding = behind.feeding }
given_on (Err fault) f behind = record { entries = []; feeding = f }

-- what is given of a piece that is fed until a feed says More or a fault, with so many feeds at most
abbrev pub given_by : Game → ℕ → LogFeeding → List ℕ → LogGiven
given_by game zero f piece = record { entries = []; feeding = f }
given_by game (suc most) f piece =
    given_on (fed_step game f piece).fed.what (fed_step game f piece).feeding
    (given_by game most (fed_step game f piece).feeding (drop (fed_step game f piece).fed.used piece))

-- an entry takes a byte at least, so a piece has no more feeds than bytes, and one
abbrev pub given_of : Game → LogFeeding → List ℕ → LogGiven
given_of game f piece = given_by game (suc (length piece)) f piece

-- what is given of pieces that come one behind the other
abbrev pub given_over : Game → LogFeeding → List (List ℕ) → LogGiven
given_over game f [] = record { entries = []; feeding = f }
given_over game f (piece ∷ pieces) = record {
  entries = (given_of game f piece).entries ++ (given_over game (given_of game f piece).feeding pieces).entries;
  feeding = (given_over game (given_of game f piece).feeding pieces).feeding;
}
