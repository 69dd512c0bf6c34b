-- Laws: what holds of every stream.
use Rattle.std.specs.Prelude.{◌≡◌, ℕ, List, [], ◌∷◌, ◌++◌, true}
use Rattle.definitions.specs.World.{Game}
use Rattle.log_streams.specs.Streams.{entries_of, gone_on, owner_of}

-- bytes that come with the one that closed a player, and after it, give its list no entry, and its
-- log no other owner
abbrev pub LaterBytesGiveNothing : Type 0
LaterBytesGiveNothing = (game : Game) (pieces : List (List ℕ)) (front rest : List ℕ) → (gone_on game (pieces ++ front ∷ [])).is_closed ≡ true →
    (entries_of game (gone_on game (pieces ++ (front ++ rest) ∷ [])) ≡ entries_of game (gone_on game (pieces ++ front ∷ [])))
    × (owner_of game (gone_on game (pieces ++ (front ++ rest) ∷ [])) ≡ owner_of game (gone_on game (pieces ++ front ∷ [])))
