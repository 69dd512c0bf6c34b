-- Places: how far the frames below a place lead.
use Rattle.std.specs.Prelude.{ℕ, filter, length, nat_lt}
use Rattle.std.specs.List.{range_with_len}
use Rattle.definitions.specs.World.{Game}
use Rattle.definitions.specs.Places.{reveal_place}

-- how many turns' reveals stand below the place
unfoldable pub reveals_below : Game → ℕ → ℕ
reveals_below game place = length (filter (λ t. nat_lt (reveal_place game t) place) (range_with_len 0 game.turns))
