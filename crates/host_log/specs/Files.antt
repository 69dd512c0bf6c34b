-- Files: what the machine is asked for a log.
use Rattle.std.specs.Prelude.{◌≡◌, ◌==◌, ◌⊎◌, ◌<◌, ◌≤◌, ℕ, Bool, true, false, List, [], ◌∷◌, ◌++◌, Option, Some, None, Result, Ok, Err, take, drop, length, slice_get, codes, if◌then◌else◌}
use Rattle.std.specs.List.{flat_map}
use Rattle.machine_host.specs.declared.faults.HostFault.{HostFault}
use Rattle.machine_host.specs.Asks.{Ask, Appended, Created, FileSynced, FolderOpened, FolderSynced}

-- the last slash of a path stands at this place, or there is none
abbrev pub IsLastSlash : (path : List ℕ) → Option ℕ → Type 0
IsLastSlash path None = (i : ℕ) → slice_get path i ≡ Some 47 → ⊥
IsLastSlash path (Some at) = (slice_get path at ≡ Some 47) × ((i : ℕ) → at < i → slice_get path i ≡ Some 47 → ⊥)

-- the folder that a file stands in, by the last slash of its path
abbrev pub folder_at : (path : List ℕ) → Option ℕ → List ℕ
folder_at path None = codes "."
folder_at path (Some at) = if at == 0 then codes "/" else take at path

abbrev pub IsFolderOf : (path folder : List ℕ) → Type 0
IsFolderOf path folder = (slash : Option ℕ) × IsLastSlash path slash × (folder ≡ folder_at path slash)

-- a new file is created for its owner alone, after the folder was opened that it stands in; a file
-- that is there isn't touched
abbrev pub CreatesLog : (path : List ℕ) → (is_created : Bool) → (before after : List Ask) → Type 0
CreatesLog path true before after =
    (folder : List ℕ) × IsFolderOf path folder × (after ≡ before ++ FolderOpened folder None ∷ Created path 0o600 None ∷ [])
CreatesLog path false before after =
    (folder : List ℕ) × IsFolderOf path folder × (fault : HostFault) ×
    ((after ≡ before ++ FolderOpened folder (Some fault) ∷ [])
    ⊎ (after ≡ before ++ FolderOpened folder None ∷ Created path 0o600 (Some fault) ∷ []))

-- the bytes that a call put at the file's end
abbrev pub appended_at : Ask → List ℕ
appended_at (Appended bytes (Ok count)) = take count bytes
appended_at _ = []

abbrev pub appended_in : List Ask → List ℕ
appended_in asks = flat_map appended_at asks

-- nothing else was asked than to append
abbrev pub AreAppends : List Ask → Type 0
AreAppends [] = Unit {0}
AreAppends (Appended bytes answer ∷ asks) = AreAppends asks
AreAppends (_ ∷ asks) = ⊥

-- the first bytes were appended, one at least, and the others are left; or that failed, or none was
abbrev pub AppendsSome : (bytes : List ℕ) → Option (List ℕ) → (before after : List Ask) → Type 0
AppendsSome bytes (Some rest) before after =
    (count : ℕ) × (0 < count) × (count ≤ length bytes) × (rest ≡ drop count bytes) × (after ≡ before ++ Appended bytes (Ok count) ∷ [])
AppendsSome bytes None before after =
    (after ≡ before ++ Appended bytes (Ok 0) ∷ []) ⊎ ((fault : HostFault) × (after ≡ before ++ Appended bytes (Err fault) ∷ []))

abbrev pub TakesNone : Result ℕ HostFault → Type 0
TakesNone (Ok count) = count ≡ 0
TakesNone (Err fault) = Unit {0}

-- the last call was to append these bytes, and the machine took none of them
abbrev pub EndsStuck : (rest : List ℕ) → List Ask → Type 0
EndsStuck rest asks =
    (earlier : List Ask) × (answer : Result ℕ HostFault) × (asks ≡ earlier ++ Appended rest answer ∷ []) × TakesNone answer

-- all the bytes were appended, in their order, or that failed after the first ones, where the machine
-- took none of the others
pub record AppendsAll (bytes : List ℕ) (is_done : Bool) (before after : List Ask) : Type 0 where
  pub more : List Ask
  pub asked : after ≡ before ++ more
  pub only : AreAppends more
  pub rest : List ℕ
  pub front : bytes ≡ appended_in more ++ rest
  pub all : is_done ≡ true → rest ≡ []
  pub stuck : is_done ≡ false → EndsStuck rest more

-- the file is synced, and the folder, where that wasn't yet; or that failed
abbrev pub SyncsLog : (has_folder is_done : Bool) → (before after : List Ask) → Type 0
SyncsLog true true before after = after ≡ before ++ FileSynced None ∷ FolderSynced None ∷ []
SyncsLog false true before after = after ≡ before ++ FileSynced None ∷ []
SyncsLog has_folder false before after =
    (fault : HostFault) ×
    ((after ≡ before ++ FileSynced (Some fault) ∷ [])
    ⊎ (after ≡ before ++ FileSynced None ∷ FolderSynced (Some fault) ∷ []))
