-- Files: what is read for an exhibit and for the session that it is judged by.
use Rattle.std.specs.Prelude.{◌≡◌, ◌⊎◌, ℕ, Result, Option, List, [], ◌∷◌}
use Rattle.station.specs.Outside.{faults_behind}
use Rattle.station.specs.Pieces.{AllGive}
use Rattle.station.specs.Shelves.{ShelfState}
use Rattle.station.specs.Since.{since}
use Rattle.line_io.specs.Files.{AreContents, Calls, Contents, ReadsFiles, content}
use Rattle.line_io.specs.Fronts.{Fetched}
use Rattle.run_frame.specs.declared.statuses.Status.{Status}
use Rattle.definitions.specs.Lists.{item_or}
use Rattle.definitions.specs.World.{Game}
use Rattle.evidence.specs.declared.exhibit.Exhibit.{Exhibit}
use Rattle.file_commands.specs.Exhibits.{IsCaseDue, IsExhibitDue, case_for, exhibit_in}
use Rattle.run_frame.specs.Sessions.{HasGame, is_shelf_fault}

-- The second file is read only where the first one has a session.
abbrev pub IsSecondDue : Calls → Type 0
IsSecondDue calls = (session : Option (List ℕ)) → AllGive session (item_or calls 0 []) → (item_or calls 1 [] ≡ []) ⊎ HasGame session

-- The exhibit of a file was read.
pub record OpensExhibit (before after : ShelfState) (name : List ℕ) (exhibit : Result Exhibit Status) : Type 0 where
  pub fetched : Fetched before after name (is_shelf_fault exhibit)
  pub due : (content : Option (List ℕ)) → AllGive content (since before.pieces after.pieces) → IsExhibitDue (exhibit_in content) exhibit

-- A session and an exhibit were read, each from its file.
pub record OpensCase (before after : ShelfState) (session evidence : List ℕ) (case : Result (Game × Exhibit) Status) : Type 0 where
  pub calls : Calls
  pub reads : ReadsFiles (session ∷ evidence ∷ []) before after calls
  pub second_due : IsSecondDue calls
  pub counted : after.faults ≡ faults_behind (is_shelf_fault case) before.faults
  pub due : (contents : Contents) → AreContents contents calls → IsCaseDue (case_for (content contents 0) (content contents 1)) case
