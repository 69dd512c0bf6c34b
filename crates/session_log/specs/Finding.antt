-- Finding: what stands where an entry begins.
use Rattle.std.specs.Prelude.{ℕ, ◌+◌, ◌≤◌, Bool, not, List, take, drop, Option, Some, None, Result, Ok, Err, length, nat_lt, bytes_eq, if◌then◌else◌}
use Rattle.definitions.specs.declared.logs.Entry.{Entry}
use Rattle.definitions.specs.declared.logs.LogWhy.{LogWhy}
use Rattle.definitions.specs.declared.logs.LogWhy.TheVariants.{BadChain, BadEntry}
use Rattle.definitions.specs.World.{Game}
use Rattle.definitions.specs.Entries.{is_well_formed}
use Rattle.session_log.specs.declared.finding.Found.{Found}
use Rattle.session_log.specs.declared.finding.Found.TheVariants.{Torn, Bad, Whole}
use Rattle.session_log.specs.Spelling.{chained}
use Rattle.session_log.specs.Entries.{told_len, entry_of}

-- the length of the body, the kind and the body, and behind them the digest that is stored
abbrev pub text_at : List ℕ → List ℕ
text_at bytes = take (told_len bytes + 3) bytes

abbrev pub digest_at : List ℕ → List ℕ
digest_at bytes = take 32 (drop (told_len bytes + 3) bytes)

-- the bytes end before the entry does
abbrev pub is_torn : List ℕ → Bool
is_torn bytes = nat_lt (length bytes) (told_len bytes + 35)

-- the digest is another than the one that chains the entry
abbrev pub is_unchained : List ℕ → List ℕ → Bool
is_unchained chain bytes = not (bytes_eq (digest_at bytes) (chained chain (text_at bytes)))

-- an entry that the owner of a log may have, of so many bytes and with this digest
abbrev pub owned_by : Game → ℕ → Option Entry → ℕ → List ℕ → Found
owned_by game me None count digest = Bad BadEntry
owned_by game me (Some e) count digest = if is_well_formed game me e then Whole e count digest else Bad BadEntry

-- what the whole entry is at the front of the bytes, whose text should have this digest
abbrev pub found_by : Game → ℕ → List ℕ → List ℕ → Found
found_by game me bytes hash =
    if not (bytes_eq (digest_at bytes) hash) then Bad BadChain
    else owned_by game me (entry_of (text_at bytes)) (told_len bytes + 35) (digest_at bytes)

-- the entry at the front of the bytes, behind what has this digest: the faults in the order in which they are tried
unfoldable pub entry_at : Game → ℕ → List ℕ → List ℕ → Found
entry_at game me chain bytes =
    if is_torn bytes then Torn
    else if is_unchained chain bytes then Bad BadChain
    else owned_by game me (entry_of (text_at bytes)) (told_len bytes + 35) (digest_at bytes)

-- what an owner may have, where this entry was read and he may have it, or not
abbrev pub owned_as : Bool → Entry → ℕ → List ℕ → Found
owned_as is e count digest = if is then Whole e count digest else Bad BadEntry

-- what stands there, where the whole entry is such a one, or the entry's room holds this one
abbrev pub found_as : Result (Unit {0}) LogWhy → Entry → ℕ → List ℕ → Found
found_as (Err why) e count digest = Bad why
found_as (Ok good) e count digest = Whole e count digest

-- a whole entry has bytes, and no more than there are
abbrev pub IsWithin : ℕ → Found → Type 0
IsWithin count Torn = Unit {0}
IsWithin count (Bad why) = Unit {0}
IsWithin count (Whole e used digest) = used ≤ count
