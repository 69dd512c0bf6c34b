-- Shown: what a log shows of the players, of where they were last seen, and of the owner's next frame.
use Rattle.std.specs.Prelude.{◌≡◌, ℕ, ◌-◌, ◌<◌, ◌≤◌, List, Option, Some, None}
use Rattle.definitions.specs.declared.world.Cell.{Cell}
use Rattle.definitions.specs.declared.frames.What.TheVariants as F
use Rattle.definitions.specs.declared.logs.Entry.{Entry}
use Rattle.definitions.specs.Lists.{item_or}
use Rattle.definitions.specs.World.{Game, players_of}
use Rattle.definitions.specs.declared.places.Slot.{Slot}
use Rattle.definitions.specs.Places.{slot_at}
use Rattle.definitions.specs.Held.{held_count, resolved_count, next_place}
use Rattle.definitions.specs.Meets.{cell_before}
use Rattle.definitions.specs.Honest.{made_count}
use Rattle.definition_laws.specs.Distances.{last_cell}
use Rattle.dilation.specs.Dilated.{cell_of}
use Rattle.wait_rule.specs.declared.views.View.{View}
use Rattle.wait_rule.specs.declared.views.Stage.{Stage}
use Rattle.wait_rule.specs.declared.views.Stage.TheVariants.{Commit, Reveal, After}
use Rattle.wait_rule.specs.Waiting.{no_view}

-- this is what the owner's log shows of player q
pub record IsView (game : Game) (me : ℕ) (h : List Entry) (q : ℕ) (v : View) : Type 0 where
  pub resolved_is : v.resolved ≡ resolved_count game me h q
  pub next_is : v.next ≡ next_place game me h q
  pub commits_is : v.commits ≡ held_count game me h q

-- these are what it shows of each other player
abbrev pub AreViews : Game → ℕ → List Entry → List View → Type 0
AreViews game me h views = (q : ℕ) → q < players_of game → (q ≡ me → ⊥) → IsView game me h q (item_or views q no_view)

-- these are the cells to which the resolved moves of each other player lead
abbrev pub AreLastCells : Game → ℕ → List Entry → List Cell → Type 0
AreLastCells game me h cells = (q : ℕ) → q < players_of game → (q ≡ me → ⊥) → cell_of cells q ≡ last_cell game me h q

-- the frame of a stage: one of the two of a turn, or none behind the last
abbrev pub slot_of : Stage → Option Slot
slot_of (Commit t last) = Some (record { what = F.Commit; turn = t })
slot_of (Reveal t at) = Some (record { what = F.Reveal; turn = t })
slot_of After = None

-- the stage's cell is the owner's before the turn that it speaks of
abbrev pub StandsThere : Game → ℕ → List Entry → Stage → Type 0
StandsThere game me h (Commit t last) = game.ahead ≤ t → last ≡ cell_before game me h me (t - game.ahead)
StandsThere game me h (Reveal t at) = at ≡ cell_before game me h me t
StandsThere game me h After = Unit {0}

-- the owner's frames have come to this stage
pub record IsStageOf (game : Game) (me : ℕ) (h : List Entry) (stage : Stage) : Type 0 where
  pub slot : slot_at game (made_count h) ≡ slot_of stage
  pub cell : StandsThere game me h stage
