-- Spelling: the bytes of an entry, and of a log.
use Rattle.std.specs.Prelude.{ℕ, ◌≡◌, ◌<◌, ◌^◌, List, [], ◌∷◌, ◌++◌, length}
use Rattle.std.specs.Int.{w16, w32, to_be_bytes}
use Rattle.sha2.specs.Sha256.{sha256}
use Rattle.definitions.specs.declared.logs.Entry.{Entry}
use Rattle.definitions.specs.declared.logs.Entry.TheVariants.{Chose, Made, Got}
use Rattle.definitions.specs.Openings.{move_bytes, FitsCell, FitsStrike}
use Rattle.commitment.specs.Spelling.{frame_bytes, FitsFrame}

-- the number of an entry's kind
abbrev pub kind_of : Entry → ℕ
kind_of (Chose t m n) = 1
kind_of (Made f) = 2
kind_of (Got q f) = 3

-- what an entry says: a choice its turn, move and nonce, a made frame its bytes, a frame that was got its sender and its bytes
unfoldable pub body_of : Entry → List ℕ
body_of (Chose t m n) = to_be_bytes w32 t ++ (move_bytes m ++ n.bytes)
body_of (Made f) = frame_bytes f
body_of (Got q f) = q ∷ frame_bytes f

-- the length of the body, the kind, and the body
unfoldable pub entry_text : Entry → List ℕ
entry_text e = to_be_bytes w16 (length (body_of e)) ++ (kind_of e ∷ body_of e)

-- the digest that chains an entry's text to what stands before it
abbrev pub chained : List ℕ → List ℕ → List ℕ
chained chain text = sha256 (chain ++ text)

-- an entry behind what has this digest
abbrev pub entry_bytes : List ℕ → Entry → List ℕ
entry_bytes chain e = entry_text e ++ chained chain (entry_text e)

-- entries one behind the other
abbrev pub entries_bytes : List ℕ → List Entry → List ℕ
entries_bytes chain [] = []
entries_bytes chain (e ∷ entries) = entry_bytes chain e ++ entries_bytes (chained chain (entry_text e)) entries

-- before the first entry the session's id and the owner's byte stand for the digest
abbrev pub first_chain : List ℕ → ℕ → List ℕ
first_chain id owner = id ++ owner ∷ []

-- a log of the session with this id: no bytes where nothing is logged, else the owner's byte and the entries
abbrev pub log_bytes : List ℕ → ℕ → List Entry → List ℕ
log_bytes id owner [] = []
log_bytes id owner (e ∷ entries) = owner ∷ entries_bytes (first_chain id owner) (e ∷ entries)

-- the entry's numbers fit their fields, as those of every value of its type do
abbrev pub FitsEntry : Entry → Type 0
FitsEntry (Chose t m n) = (t < 2 ^ 32) × FitsCell m.to × FitsStrike m.strike × (length n.bytes ≡ 32)
FitsEntry (Made f) = FitsFrame f
FitsEntry (Got q f) = (q < 2 ^ 8) × FitsFrame f
