-- Accused: what is answered of files of sealed frames.
use Rattle.std.specs.Prelude.{◌≡◌, ℕ, ◌+◌, List, [], ◌∷◌, Option, None, Some, flat_map, filter_map, map, option_map}
use Rattle.std.specs.Option.{option_or}
use Rattle.definitions.specs.declared.frames.TurnFrame.{TurnFrame}
use Rattle.definitions.specs.declared.logs.Entry.{Entry}
use Rattle.definitions.specs.declared.logs.Entry.TheVariants.{Got}
use Rattle.definitions.specs.declared.findings.Finding.{Finding}
use Rattle.definitions.specs.Findings.{findings}
use Rattle.definitions.specs.World.{Game}
use Rattle.definitions.specs.Logs.{player_of}
use Rattle.evidence.specs.Showing.{frames_of_finding}
use Rattle.auditor.specs.Audits.{StandsFor}
use Rattle.sealed_evidence.specs.declared.sealed.SealedExhibit.{SealedExhibit}
use Rattle.sealed_files.specs.SealedFrames.{SealedFrame, first_bad, sealed_in}
use Rattle.accuser.specs.declared.accusing.AccuseFault.{AccuseFault}
use Rattle.accuser.specs.declared.accusing.AccuseFault.TheVariants.{BadSeal, Memory}
use Rattle.accuser.specs.SealBooks.{seal_among, seal_in}
use Rattle.accuser.specs.SealedReports.{SealedReported, found_in}

-- a sealed frame as an entry: got of its player
abbrev pub as_entry : SealedFrame → Entry
as_entry s = Got (player_of s.frame) s.frame

-- the frames of a file as entries
abbrev pub entries_in : Game → List (List ℕ) → List ℕ → List Entry
entries_in game roots bytes = map as_entry (sealed_in game roots bytes)

-- the frames of each file as entries
abbrev pub logs_of : Game → List (List ℕ) → List (List ℕ) → List (List Entry)
logs_of game roots files = map (entries_in game roots) files

-- the sealed frames of all files, one file behind the other
abbrev pub all_sealed : Game → List (List ℕ) → List (List ℕ) → List SealedFrame
all_sealed game roots files = flat_map (sealed_in game roots) files

-- the seal with which the frame stands first in the files, if it stands there
abbrev pub seal_of : Game → List (List ℕ) → List (List ℕ) → TurnFrame → Option (List ℕ)
seal_of game roots files f = seal_among (all_sealed game roots files) f

-- what shows a finding in the files: the frames of its exhibit, each with the seal with which it
-- stands first
abbrev pub sealed_of : Game → List (List ℕ) → List (List ℕ) → Finding → SealedExhibit
sealed_of game roots files f = record {
  exhibit = record { player = f.player; turn = f.turn; kind = f.kind; frames = frames_of_finding game (logs_of game roots files) f };
  seals = filter_map (seal_of game roots files) (frames_of_finding game (logs_of game roots files) f);
}

-- the number of the first file that has a fault, where the first file has this one, and the fault
abbrev pub first_fault : Game → List (List ℕ) → ℕ → List (List ℕ) → Option (ℕ × ℕ)
first_fault game roots number [] = None
first_fault game roots number (bytes ∷ files) = option_or (option_map (λ at. (number, at)) (first_bad game roots bytes)) (first_fault game roots (number + 1) files)

-- the file of this number has this fault; want of memory has its cause outside
abbrev pub IsFaultOf : Game → List (List ℕ) → ℕ → List ℕ → AccuseFault → Type 0
IsFaultOf game roots number bytes (BadSeal file at) = (file ≡ number) × (first_bad game roots bytes ≡ Some at)
IsFaultOf game roots number bytes Memory = Unit {0}

-- This is the first fault of the files. Want of memory has its cause outside.
abbrev pub IsFirstFault : Game → List (List ℕ) → ℕ → List (List ℕ) → AccuseFault → Type 0
IsFirstFault game roots number files (BadSeal file at) = first_fault game roots number files ≡ Some (file, at)
IsFirstFault game roots number files Memory = Unit {0}

-- the report has what its exhibits are made of: an auditor that stands for logs that got these
-- files' frames, and of each frame the seal with which it stands first
pub record HasExhibits (game : Game) (roots files : List (List ℕ)) (r : SealedReported) : Type 0 where
  pub owners : List (Option ℕ)
  pub stands : StandsFor game owners (logs_of game roots files) r.audit
  pub seals : (f : TurnFrame) → seal_in r.seals f ≡ seal_of game roots files f

-- no file has a fault, and the report lists what logs show that got just these frames
pub record Accuses (game : Game) (roots files : List (List ℕ)) (r : SealedReported) : Type 0 where
  pub sound : first_fault game roots 0 files ≡ None
  pub found : found_in r ≡ findings game (logs_of game roots files)
  pub exhibits : HasExhibits game roots files r
