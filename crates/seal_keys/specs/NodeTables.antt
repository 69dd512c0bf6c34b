-- NodeTables: the tree of nodes that keys hold, as one table. The nodes of one height stand in a
-- row, and behind it the row of their children.
use Rattle.std.specs.Prelude.{◌≡◌, ◌≤◌, ◌<◌, ℕ, ◌+◌, ◌-◌, ◌*◌, ◌^◌, List, [], length, slice_index_or, Option}
use Rattle.definitions.specs.World.{Game, players_of}
use Rattle.seal_keys.specs.Keys.{leaf_of, node, places, tree_height}

-- the nodes up to this height stand at their places, in the table of a tree that is so high
abbrev pub HasNodes : (ℕ → List ℕ) → (tree height : ℕ) → List (List ℕ) → Type 0
HasNodes leaves tree height nodes =
    (h j : ℕ) → h ≤ height → j < 2 ^ (tree - h) → slice_index_or nodes (2 ^ (tree - h) + j) [] ≡ node leaves h j

-- the parts of a player's keys fit together
pub record AreKeys (game : Game) (player : ℕ) (seed : List ℕ) (tree : ℕ) (nodes : List (List ℕ)) (sealed : List (Option (List ℕ))) : Type 0 where
  pub player_is : player < players_of game
  pub tree_is : tree ≡ tree_height game
  pub count : length nodes ≡ 2 * 2 ^ tree
  pub has_nodes : HasNodes (leaf_of seed (places game)) tree tree nodes
  pub sealed_count : length sealed ≡ places game
