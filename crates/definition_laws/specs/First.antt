-- First: the first finding of a log, and the logs of which only one player can be found.
use Rattle.std.specs.Prelude.{◌≡◌, ℕ, List, [], ◌∷◌, ◌++◌, Option, slice_get, IsTrue}
use Rattle.definitions.specs.declared.frames.TurnFrame.{TurnFrame}
use Rattle.definitions.specs.declared.logs.Entry.{Entry}
use Rattle.definitions.specs.declared.logs.Entry.TheVariants.{Got}
use Rattle.definitions.specs.declared.findings.Finding.{Finding}
use Rattle.definitions.specs.World.{Game}
use Rattle.definitions.specs.Lists.{first_of}
use Rattle.definitions.specs.Findings.{findings, finding_at, is_clean, kinds}

-- the first finding of the log, if there is one
abbrev pub finding_of_log : Game → List Entry → Option Finding
finding_of_log game h = slice_get (findings game (h ∷ [])) 0

-- the first finding of the player's turn, if there is one
abbrev pub finding_of_turn : Game → List Entry → ℕ → ℕ → Option Finding
finding_of_turn game h q t = first_of (finding_at game (h ∷ []) q t) kinds

-- the log is one without a finding, and behind it a frame that was got from the player
pub record IsGotBehind (game : Game) (q : ℕ) (h : List Entry) : Type 0 where
  pub before : List Entry
  pub frame : TurnFrame
  pub clean : IsTrue (is_clean game before)
  pub stands : h ≡ before ++ Got q frame ∷ []
