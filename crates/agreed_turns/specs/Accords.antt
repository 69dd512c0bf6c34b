-- Accords: whether the logs that resolve a turn do so by one move.
use Rattle.std.specs.Prelude.{◌≡◌, ℕ, ◌+◌, ◌^◌, ◌<◌, List, [], ◌∷◌, length, if◌then◌else◌, set, slice_get}
use Rattle.std.specs.List.{list_all}
use Rattle.std.specs.Option.{option_map_or}
use Rattle.definitions.specs.declared.world.Move.{Move}
use Rattle.definitions.specs.Logs.{move_eq}
use Rattle.agreed_turns.specs.declared.accords.Accord.{Accord}
use Rattle.agreed_turns.specs.declared.accords.Accord.TheVariants.{Open, One, Unlike}

-- of these moves, one for each log that resolves the turn
abbrev pub accord_of : List Move → Accord
accord_of [] = Open
accord_of (m ∷ ms) = if list_all (move_eq m) ms then One m else Unlike

-- with the move of one log more
abbrev pub with_move : Accord → Move → Accord
with_move Open m = One m
with_move (One k) m = if move_eq k m then One k else Unlike
with_move Unlike m = Unlike

-- 1 where the turn is agreed
abbrev pub one_in : Accord → ℕ
one_in Open = 0
one_in (One m) = 1
one_in Unlike = 0

-- how many of the turns are agreed
abbrev pub ones_in : List Accord → ℕ
ones_in [] = 0
ones_in (a ∷ all) = one_in a + ones_in all

-- the number says how many of the turns are agreed, and has room for all of them
pub record AreCounted (turns : List Accord) (agreed : ℕ) : Type 0 where
  pub ones : agreed ≡ ones_in turns
  pub few : length turns < 2 ^ 32

-- the turn's accord with the move, and the others as they were
abbrev pub note_at : List Accord → ℕ → Move → List Accord
note_at all t m = option_map_or (λ a. set all t (with_move a m)) (slice_get all t) all

-- with the moves of the turns from this one on
abbrev pub noted_from : List Accord → ℕ → List Move → List Accord
noted_from all t [] = all
noted_from all t (m ∷ ms) = noted_from (note_at all t m) (t + 1) ms
