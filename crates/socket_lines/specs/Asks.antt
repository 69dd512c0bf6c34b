-- Asks: the places that a player is to be asked for.
use Rattle.std.specs.Prelude.{ℕ, ◌+◌, Bool, false, nat_le, List, Option, Some, None}

pub record AskList : Type 0 where
  -- no place above this one is asked for
  pub most : ℕ
  -- the place that was asked for last
  pub last : Option ℕ
  -- the places of whose WANT no byte was given
  pub due : List ℕ

-- how many places there are up to this one
abbrev pub upto : Option ℕ → ℕ
upto None = 0
upto (Some place) = place + 1

abbrev pub is_up_to : Option ℕ → ℕ → Bool
is_up_to None place = false
is_up_to (Some last) place = nat_le place last

-- the place, or a greater one, was asked for
abbrev pub is_asked : AskList → ℕ → Bool
is_asked a place = is_up_to a.last place
