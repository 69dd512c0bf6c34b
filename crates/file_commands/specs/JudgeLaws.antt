-- JudgeLaws: what a verdict is worth: whom the frames of a `yes` convict, and in which audits.
use Rattle.std.specs.Prelude.{◌≡◌, ℕ, ◌+◌, ◌<◌, ◌≤◌, List, codes}
use Rattle.definitions.specs.declared.frames.TurnFrame.{TurnFrame}
use Rattle.definitions.specs.declared.logs.Entry.{Entry}
use Rattle.definitions.specs.declared.logs.Entry.TheVariants.{Got}
use Rattle.definitions.specs.declared.findings.Kind.TheVariants.{Illegal}
use Rattle.definitions.specs.declared.findings.Finding.{Finding}
use Rattle.definitions.specs.Lists.{EachIs}
use Rattle.definitions.specs.World.{Game}
use Rattle.definitions.specs.Findings.{findings}
use Rattle.definitions.specs.Exhibits.{Shows}
use Rattle.definition_laws.specs.Members.{Has}
use Rattle.evidence.specs.declared.exhibit.Exhibit.{Exhibit}
use Rattle.evidence.specs.Laws.{Convicts, HasCommit, StandsIn}

-- the text says yes
abbrev pub SaysYes : List ℕ → Type 0
SaysYes text = text ≡ codes "yes\n"

-- the frames show in this session what the exhibit says
abbrev pub IsShownBy : Game → Exhibit → Type 0
IsShownBy game x = Shows game x.player x.turn x.kind x.frames

-- The log got all frames of the exhibit, and the commitments that stand before the reveal of the turn before, which it needs to resolve
-- turns where players commit more than two turns ahead.
pub record GotAll (game : Game) (x : Exhibit) (h : List Entry) : Type 0 where
  pub frames : EachIs (λ (f : TurnFrame). Has h (Got x.player f)) x.frames
  pub commits : (u : ℕ) → 0 < x.turn → x.turn < u → u + 1 < x.turn + game.ahead → u < game.turns → HasCommit h x.player u

-- the logs have a finding of the player, of this turn or of one before it
abbrev pub ConvictsBy : Game → List (List Entry) → (q t : ℕ) → Type 0
ConvictsBy game logs q t = (f : Finding) × Has (findings game logs) f × (f.player ≡ q) × (f.turn ≤ t)

-- What is behind the text of a verdict on this exhibit.
pub record TellsVerdict (game : Game) (x : Exhibit) (text : List ℕ) : Type 0 where
  -- it says yes exactly where the frames show what the exhibit says, without any log
  pub shows : SaysYes text → IsShownBy game x
  pub told : IsShownBy game x → SaysYes text
  -- where it says yes of two commitments, a bad opening or a collision, the player is convicted, of
  -- this turn and kind, by each audit among whose logs all these frames stand, whoever wrote them
  pub convicts : SaysYes text → (x.kind ≡ Illegal → ⊥) → (logs : List (List Entry)) → EachIs (StandsIn logs x.player) x.frames → Convicts game logs x.player x.turn x.kind
  -- where it says yes of an illegal move, the player is convicted, of this turn or of one before it,
  -- by each audit with a log that got all the frames and the commitments that the turn before needs
  pub convicts_of_moves : SaysYes text → x.kind ≡ Illegal → (logs : List (List Entry)) (h : List Entry) → Has logs h → GotAll game x h → ConvictsBy game logs x.player x.turn
