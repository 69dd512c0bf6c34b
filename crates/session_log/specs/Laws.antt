-- Laws of logs: what is written is read again, and what is read was written so.
use Rattle.std.specs.Prelude.{ℕ, ◌≡◌, ◌≤◌, ◌<◌, ◌+◌, ◌⊎◌, List, [], ◌∷◌, ◌++◌, length, flat_map, nat_lt, Option, Some, None, Ok, Err, if◌then◌else◌, slice_index}
use Rattle.definitions.specs.declared.logs.Entry.{Entry}
use Rattle.definitions.specs.declared.logs.Entry.TheVariants.{Chose, Made, Got}
use Rattle.definitions.specs.declared.logs.LogWhy.{LogWhy}
use Rattle.definitions.specs.declared.logs.LogWhy.TheVariants.{TooLong, Torn, BadChain, BadEntry, NotReplayed}
use Rattle.commitment.specs.Spelling.{FitsFrame, frame_bytes}
use Rattle.definitions.specs.Lists.{EachIs}
use Rattle.definitions.specs.Entries.{AreWellFormed}
use Rattle.definitions.specs.World.{Game, players_of}
use Rattle.session_log.specs.declared.finding.Found.{Found}
use Rattle.session_log.specs.declared.finding.Found.TheVariants as found
use Rattle.session_log.specs.Spelling.{entry_text, chained, entries_bytes, first_chain, log_bytes, FitsEntry}
use Rattle.session_log.specs.Finding.{entry_at}
use Rattle.session_log.specs.Entries.{entry_of}
use Rattle.session_log.specs.Reading.{Ending, ReadLog, read_log}
use Rattle.session_log.specs.Writing.{all_after, all_written, fresh, going_on}
use Rattle.session_log.specs.Feeding.{LogGiven, feed_at_start, finished, given_over}

-- all items are bytes
abbrev pub AreBytes : List ℕ → Type 0
AreBytes bytes = (i : ℕ) → slice_index bytes i < 256

-- an entry is read from its text, and an entry that is read has the text
abbrev pub EntriesAreRead : Type 0
EntriesAreRead = (e : Entry) → FitsEntry e → entry_of (entry_text e) ≡ Some e

abbrev pub EntriesAreSpelled : Type 0
EntriesAreSpelled = (text : List ℕ) (e : Entry) → AreBytes text → entry_of text ≡ Some e → entry_text e ≡ text

-- a writer writes the log
abbrev pub WritersWriteLogs : Type 0
WritersWriteLogs = (id : List ℕ) (owner : ℕ) (entries : List Entry) → all_written (fresh id owner) entries ≡ log_bytes id owner entries

-- an owner's log that a session allows is read as its entries and the end
abbrev pub LogsAreRead : Type 0
LogsAreRead = (game : Game) (me : ℕ) (entries : List Entry) → me < players_of game → EachIs FitsEntry entries → AreWellFormed game me entries →
    ((read_log game (log_bytes game.id me entries)).entries ≡ entries) × ((read_log game (log_bytes game.id me entries)).reader.said ≡ Some (Ok tt))

-- a log that is read to its end is the log of the entries that were read, which the session allows, and its owner, if it has one, is a player
pub record IsLogOf (game : Game) (bytes : List ℕ) (entries : List Entry) : Type 0 where
  pub me : ℕ
  pub known : 0 < length bytes → me < players_of game
  pub bytes_are : bytes ≡ log_bytes game.id me entries
  pub well_formed : AreWellFormed game me entries

-- the digest behind these entries
abbrev pub chain_behind : List ℕ → List Entry → List ℕ
chain_behind chain [] = chain
chain_behind chain (e ∷ entries) = chain_behind (chained chain (entry_text e)) entries

-- behind the owner's byte and these entries, which the session allows, there are more bytes, and this stands at this place
pub record StandsThere (game : Game) (bytes : List ℕ) (entries : List Entry) (place : ℕ) (f : Found) : Type 0 where
  pub me : ℕ
  pub known : me < players_of game
  pub rest : List ℕ
  pub some : 0 < length rest
  pub bytes_are : bytes ≡ me ∷ (entries_bytes (first_chain game.id me) entries ++ rest)
  pub place_is : place ≡ 1 + length (entries_bytes (first_chain game.id me) entries)
  pub well_formed : AreWellFormed game me entries
  pub there : entry_at game me (chain_behind (first_chain game.id me) entries) rest ≡ f

-- a log of one byte, which is a player's number
abbrev pub IsOwnerAlone : Game → List ℕ → List Entry → ℕ → Type 0
IsOwnerAlone game bytes entries place = (me : ℕ) × (me < players_of game) × (bytes ≡ me ∷ []) × (entries ≡ []) × (place ≡ 0)

-- a log whose first byte is no player's number
abbrev pub IsOfNobody : Game → List ℕ → List Entry → ℕ → Type 0
IsOfNobody game bytes entries place = (me : ℕ) × (rest : List ℕ) × (players_of game ≤ me) × (bytes ≡ me ∷ rest) × (entries ≡ []) × (place ≡ 0)

-- what a fault at this place says of the log: a reader names three kinds
abbrev pub IsFaultAt : Game → List ℕ → List Entry → ℕ → LogWhy → Type 0
IsFaultAt game bytes entries place TooLong = ⊥
IsFaultAt game bytes entries place Torn = StandsThere game bytes entries place found.Torn ⊎ IsOwnerAlone game bytes entries place
IsFaultAt game bytes entries place BadChain = StandsThere game bytes entries place (found.Bad BadChain)
IsFaultAt game bytes entries place BadEntry = StandsThere game bytes entries place (found.Bad BadEntry) ⊎ IsOfNobody game bytes entries place
IsFaultAt game bytes entries place NotReplayed = ⊥

-- what its end says of the log
abbrev pub EndsSo : Game → List ℕ → List Entry → Ending → Type 0
EndsSo game bytes entries (Ok whole) = IsLogOf game bytes entries
EndsSo game bytes entries (Err fault) = IsFaultAt game bytes entries fault.at fault.why

-- reading comes to an end, and the log is so
abbrev pub LogsEndSo : Type 0
LogsEndSo = (game : Game) (bytes : List ℕ) → AreBytes bytes →
    (last : Ending) × ((read_log game bytes).reader.said ≡ Some last) × EndsSo game bytes (read_log game bytes).entries last

-- the entries that were read are this player's, or there are none
abbrev pub AreEntriesOf : ℕ → ReadLog → Type 0
AreEntriesOf me l = (l.reader.owner ≡ Some me) ⊎ (l.entries ≡ [])

-- The reader's writer stands as one that wrote the entries that were read, and the reader has used
-- their bytes.
pub record StandsAfter (game : Game) (me : ℕ) (l : ReadLog) : Type 0 where
  pub writer_is : going_on l.reader me ≡ all_after (fresh game.id me) l.entries
  pub used_is : l.reader.at ≡ length (log_bytes game.id me l.entries)

-- a reader of a player's log does so
abbrev pub ReadersGoOn : Type 0
ReadersGoOn = (game : Game) (bytes : List ℕ) (me : ℕ) → AreBytes bytes → AreEntriesOf me (read_log game bytes) → StandsAfter game me (read_log game bytes)

-- the owner of a log, where its byte is there and a player's
abbrev pub owner_in : Game → List ℕ → Option ℕ
owner_in game [] = None
owner_in game (me ∷ bytes) = if nat_lt me (players_of game) then Some me else None

-- what was given of a log, and how it ends if no more comes, is what a reader reads of these bytes, whole
pub record IsReadOf (game : Game) (bytes : List ℕ) (g : LogGiven) : Type 0 where
  pub entries : g.entries ≡ (read_log game bytes).entries
  pub last : (read_log game bytes).reader.said ≡ Some (finished g.feeding)
  pub owner : g.feeding.owner ≡ owner_in game bytes

-- in whatever pieces a log comes, it is read as it is whole
abbrev pub LogPiecesDoNotMatter : Type 0
LogPiecesDoNotMatter = (game : Game) (pieces : List (List ℕ)) → IsReadOf game (flat_map (λ piece. piece) pieces) (given_over game (feed_at_start game.id) pieces)

-- what is read of a log, whatever its bytes, is what its owner may have written, honest or not
abbrev pub ReadEntriesAreWellFormed : Type 0
ReadEntriesAreWellFormed = (game : Game) (bytes : List ℕ) (me : ℕ) → owner_in game bytes ≡ Some me → AreWellFormed game me (read_log game bytes).entries

-- a frame that was got fits its fields, and is bytes
abbrev pub GotFrameFits : Entry → Type 0
GotFrameFits (Chose t m n) = Unit {0}
GotFrameFits (Made f) = Unit {0}
GotFrameFits (Got q f) = FitsFrame f × AreBytes (frame_bytes f)

-- every frame that is read of bytes as one that was got does
abbrev pub GotFramesFit : Type 0
GotFramesFit = (game : Game) (bytes : List ℕ) → AreBytes bytes → EachIs GotFrameFits (read_log game bytes).entries
