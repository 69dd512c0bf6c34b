-- Hostile: the line that names the hostile players.
use Rattle.std.specs.Prelude.{ℕ, ◌^◌, Bool, true, false, List, [], ◌∷◌, Option, Some, None, ◌==◌, bit_or, codes, decimal, if◌then◌else◌}
use Rattle.std.specs.List.{range_with_len}
use Rattle.definitions.specs.World.{Game, players_of}
use Rattle.byte_fields.specs.Fronts.{◌>>=◌, behind}

-- the text is at its end or at a space
abbrev pub is_at_space : List ℕ → Bool
is_at_space [] = true
is_at_space (b ∷ text) = b == 32

-- what stands behind a space and the player's number, where the text begins so and the number ends there
unfoldable pub behind_player : (q : ℕ) → List ℕ → Option (List ℕ)
behind_player q text = do
  number ← behind (codes " ") text
  rest ← behind (decimal q) number
  if is_at_space rest then Some rest else None

-- the set with the player in it
abbrev pub with_player : (hostile q : ℕ) → ℕ
with_player hostile q = bit_or hostile (2 ^ q)

-- the set that the text names, of these players and those before, where it is their numbers, each after a space, in order
unfoldable pub named_among : (players : List ℕ) → (before : ℕ) → List ℕ → Option ℕ
named_among [] before [] = Some before
named_among [] before (b ∷ text) = None
named_among (q ∷ qs) before text = if_named (behind_player q text) (named_among qs before text) (λ rest. named_among qs (with_player before q) rest)
  where
    if_named : Option (List ℕ) → Option ℕ → (List ℕ → Option ℕ) → Option ℕ
    if_named None other named = other
    if_named (Some rest) other named = named rest

-- the players of `hostile` and their numbers, each after a space, rising
unfoldable pub hostile_of : Game → List ℕ → Option ℕ
hostile_of game line = behind (codes "hostile") line >>= named_among (range_with_len 0 (players_of game)) 0
