-- Reading: what a read of a file by its name asks the host, and what comes of it.
use Rattle.std.specs.Prelude.{◌≡◌, ◌⊎◌, ℕ, ◌==◌, ◌+◌, List, [], ◌∷◌, ◌++◌, Option, Some, None, Result, Ok, Err, length, if◌then◌else◌}
use Rattle.std.specs.List.{fold}
use Rattle.station.specs.Outside.{one_more}
use Rattle.station.specs.Pieces.{Piece}
use Rattle.station.specs.declared.sources.Pull.{Pull}
use Rattle.station.specs.declared.sources.Pull.TheVariants.{Took, Ended, Failed}
use Rattle.station.specs.Shelves.{ShelfState}
use Rattle.machine_host.specs.declared.faults.HostFault.{HostFault}
use Rattle.file_shelf.specs.FileAsks.{FileAsk, Opened, Sought, Read}

-- a file that is open: the name it was opened by, its number, and the place that its next read
-- begins at
pub record Standing : Type 0 where
  pub name : List ℕ
  pub number : ℕ
  pub at : ℕ

-- a file that was opened stands at its front
abbrev pub opened_so : (number : ℕ) → (name : List ℕ) → Option HostFault → Option Standing
opened_so number name None = Some (record { name = name; number = number; at = 0 })
opened_so number name (Some fault) = None

-- a file whose next read was moved stands there, and where that failed nothing is known of it
abbrev pub sought_so : (at : ℕ) → Option HostFault → Standing → Option Standing
sought_so at None s = Some (record { name = s.name; number = s.number; at = at })
sought_so at (Some fault) s = None

-- a file that was read stands after the bytes that it gave
abbrev pub read_so : Result (List ℕ) HostFault → Standing → Option Standing
read_so (Ok bytes) s = Some (record { name = s.name; number = s.number; at = s.at + length bytes })
read_so (Err fault) s = None

-- a call for the file of this number changes how that one stands, and no other
abbrev pub in_file : (number : ℕ) → (Standing → Option Standing) → Option Standing → Option Standing
in_file number step None = None
in_file number step (Some s) = if s.number == number then step s else Some s

-- the file that was opened last, as it stands after one more call
abbrev pub after_ask : Option Standing → FileAsk → Option Standing
after_ask last (Opened number name done) = opened_so number name done
after_ask last (Sought number at done) = in_file number (sought_so at done) last
after_ask last (Read number gave) = in_file number (read_so gave) last

-- the file that was opened last, as it stands after these calls, where that is known
abbrev pub standing_in : List FileAsk → Option Standing
standing_in asks = fold after_ask None asks

-- the file that was opened last has this name and number, and stands at this place
abbrev pub StandsSo : (name : List ℕ) → (number at : ℕ) → List FileAsk → Type 0
StandsSo name number at asks = standing_in asks ≡ Some (record { name = name; number = number; at = at })

-- the files of a host, by what it was asked, and the number that the next file is opened under: it
-- rises with each opening, up to 2^64 - 1
pub record Reads : Type 0 where
  pub asks : List FileAsk
  pub next : ℕ

-- a shelf, by its files, what its calls answered, and how many of them failed
pub record ShownShelf : Type 0 where
  pub reads : Reads
  pub pieces : List Piece
  pub faults : ℕ

-- as each shelf is seen: what the files contain isn't shown
abbrev pub state_of : ShownShelf → ShelfState
state_of s = record { files = None; pieces = s.pieces; faults = s.faults }

-- what a read gave, and nothing where it failed
abbrev pub given_by : Result (List ℕ) HostFault → Option (List ℕ)
given_by (Ok bytes) = Some bytes
given_by (Err fault) = None

-- what is answered to a read: no bytes are the end of the file
abbrev pub pull_of : Result ℕ HostFault → Pull
pull_of (Ok count) = if count == 0 then Ended else Took count
pull_of (Err fault) = Failed

-- the file of this number was read once, and what that gave is given
abbrev pub ReadsOnce : (number : ℕ) → (gave : Option (List ℕ)) → (before after : List FileAsk) → Type 0
ReadsOnce number gave before after =
    (answer : Result (List ℕ) HostFault) × (after ≡ before ++ Read number answer ∷ []) × (gave ≡ given_by answer)

-- the file of this name is opened under this number, and moved to the place; or that failed
abbrev pub Opens : (number : ℕ) → (name : List ℕ) → (at : ℕ) → Option HostFault → (before after : List FileAsk) → Type 0
Opens number name at None before after = after ≡ before ++ Opened number name None ∷ Sought number at None ∷ []
Opens number name at (Some fault) before after =
    (after ≡ before ++ Opened number name (Some fault) ∷ [])
    ⊎ (after ≡ before ++ Opened number name None ∷ Sought number at (Some fault) ∷ [])

-- the number of the file that was reached, if one was
abbrev pub number_by : {A : Type 0} → (A → ℕ) → Result A HostFault → Result ℕ HostFault
number_by number_of (Ok a) = Ok (number_of a)
number_by number_of (Err fault) = Err fault

-- A file is reached that has this name and stands at this place, and has that number: it is the
-- one that was opened last, or it is opened now.
abbrev pub Reaches : (name : List ℕ) → (at : ℕ) → Result ℕ HostFault → (a b : Reads) → Type 0
Reaches name at (Ok number) a b =
    (StandsSo name number at a.asks × (b ≡ a))
    ⊎ ((number ≡ a.next) × Opens number name at None a.asks b.asks × (b.next ≡ one_more a.next))
Reaches name at (Err fault) a b = Opens a.next name at (Some fault) a.asks b.asks × (b.next ≡ one_more a.next)

-- A read of the file of this name from this place on, and what it gave: bytes, none at the file's
-- end, and nothing where the host failed. A file is reached and read once, or none can be reached.
abbrev pub ReadsAt : (name : List ℕ) → (at : ℕ) → (gave : Option (List ℕ)) → (a b : Reads) → Type 0
ReadsAt name at gave a b =
    ((number : ℕ) × (middle : List FileAsk) × Reaches name at (Ok number) a (record { asks = middle; next = b.next }) × ReadsOnce number gave middle b.asks)
    ⊎ ((fault : HostFault) × Reaches name at (Err fault) a b × (gave ≡ None))
