-- ForPeers: how the cells at which the players were last seen follow a log as it grows.
use Rattle.std.proofs.Common.{◌≡◌, ℕ, zero, suc, ◌<◌, List, [], ◌∷◌, length, refl, sym, ap, ◌∙◌, arith, inl, inr, subst}
use Rattle.std.specs.Prelude.{map, slice_set}
use Rattle.std.proofs.lemmas.Bool.{cases_eq}
use Rattle.definitions.specs.declared.world.Cell.{Cell}
use Rattle.definitions.specs.declared.world.Move.{Move}
use Rattle.definitions.specs.declared.logs.Entry.{Entry}
use Rattle.definitions.specs.Lists.{item_or}
use Rattle.definitions.specs.World.{Game, players_of, no_seat}
use Rattle.definitions.specs.Moves.{track_after}
use Rattle.definitions.specs.Held.{known}
use Rattle.dilation.specs.Dilated.{cell_of, starts_of}
use Rattle.dilation.proofs.Items.{item_set, item_set_other}
use Rattle.definition_laws.specs.Distances.{last_cell}
use Rattle.wait_rule.specs.Shown.{AreLastCells}

pub item_map : {X Y : Type 0} (f : X → Y) (xs : List X) (i : ℕ) (d : X) → item_or (map f xs) i (f d) ≡ f (item_or xs i d)
item_map f [] i d = refl
item_map f (x ∷ xs) zero d = refl
item_map f (x ∷ xs) (suc i) d = item_map f xs i d

-- where no turn is resolved each player was last seen at its start
pub last_cells_start : (game : Game) (me : ℕ) (h : List Entry) → ((q : ℕ) → (q ≡ me → ⊥) → (known game me h q).moves ≡ []) → AreLastCells game me h (starts_of game)
last_cells_start game me h none q lt other =
    item_map (λ s. s.start) game.seats q no_seat ∙ ap (λ (ms : List Move). (track_after game q ms).at) (sym (none q other))

-- where a turn of one player is resolved, only its cell is another one
pub last_cells_set : (game : Game) (me : ℕ) (h later : List Entry) (cells : List Cell) (p : ℕ) (cell : Cell) → AreLastCells game me h cells → length cells ≡ players_of game → p < players_of game →
    cell ≡ last_cell game me later p → ((q : ℕ) → (q ≡ p → ⊥) → (q ≡ me → ⊥) → last_cell game me later q ≡ last_cell game me h q) → AreLastCells game me later (slice_set cells p cell)
last_cells_set game me h later cells p cell seen all player here others q lt other =
    elim (cases_eq q p) [
      | inl same ↦
          let P : ℕ → Type 0 = λ n. cell_of (slice_set cells p cell) n ≡ last_cell game me later n in
          subst P (sym same) (item_set cells p cell no_seat.start (omega arith) ∙ here)
      | inr differs ↦ item_set_other cells p q cell no_seat.start differs ∙ seen q lt other ∙ sym (others q differs other)
    ]

-- where no turn is resolved anew the cells are the same
pub last_cells_same : (game : Game) (me : ℕ) (h later : List Entry) (cells : List Cell) → AreLastCells game me h cells → ((q : ℕ) → (q ≡ me → ⊥) → last_cell game me later q ≡ last_cell game me h q) → AreLastCells game me later cells
last_cells_same game me h later cells seen same q lt other = seen q lt other ∙ sym (same q other)
