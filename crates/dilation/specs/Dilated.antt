-- Dilated: where the players of a session were last seen, and where they can be by now.
use Rattle.std.specs.Prelude.{◌≡◌, ℕ, ◌-◌, ◌*◌, List, length, map, nat_le, IsTrue, if◌then◌else◌, [], ◌∷◌}
use Rattle.definitions.specs.declared.world.Cell.{Cell}
use Rattle.definitions.specs.Lists.{EachIs, item_or}
use Rattle.definitions.specs.World.{Game, players_of, is_open, no_seat}
use Rattle.definitions.specs.Walk.{reach_of}
use Rattle.grid_world.specs.Sessions.{IsSession}
use Rattle.cell_set.specs.Regions.{Region}
use Rattle.dilation.specs.declared.growth.Kept.{Kept}

-- the cell at which each player of a session was last seen, and what is kept of it
pub record Dilated : Type 0 where
  -- in order of player
  pub cells : List Cell
  -- in order of player
  pub kept : List Kept

-- for how many turns each player was followed from its cell
abbrev pub turns_of : List Kept → List ℕ
turns_of kept = map (λ k. k.turns) kept

-- the cells at which the players start
abbrev pub starts_of : Game → List Cell
starts_of game = map (λ s. s.start) game.seats

-- the player's cell of these
abbrev pub cell_of : List Cell → ℕ → Cell
cell_of cells q = item_or cells q no_seat.start

-- for how many turns the player was followed, of these
abbrev pub kept_of : List ℕ → ℕ → ℕ
kept_of kept q = item_or kept q 0

-- no player was followed for a turn from these cells
abbrev pub none_kept : List Cell → List ℕ
none_kept cells = map (λ _. 0) cells

-- the set of the cells that the player can be at, so many turns after it was last seen as it was followed
abbrev pub kept_set : Game → Dilated → ℕ → Region
kept_set game d q = record {
  width = game.grid.width;
  height = game.grid.height;
  cells = reach_of game q (kept_of (turns_of d.kept) q) (cell_of d.cells q ∷ []);
}

-- so many growths at most make a set of `kept` turns one of `missed` turns: those that it lacks, or all where it has too many
abbrev pub most_growths : (speed kept missed : ℕ) → ℕ
most_growths speed kept missed = if nat_le kept missed then (missed - kept) * speed else missed * speed

-- these are cells of the players of a session: one for each, and open
pub record AreSeen (game : Game) (cells : List Cell) : Type 0 where
  pub session : IsSession game
  pub one_each : length cells ≡ players_of game
  pub each_open : EachIs (λ c. IsTrue (is_open game.grid c)) cells
