-- Rosters: a player's own address, and its links to the other players.
use Rattle.std.specs.Prelude.{◌≡◌, ℕ, zero, suc, List, [], ◌∷◌, ◌++◌, map, ◌==◌, if◌then◌else◌}
use Rattle.rosters.specs.declared.roster.Link.{Link}
use Rattle.rosters.specs.Addrs.{Addr}

-- what a roster says
pub record Neighbours : Type 0 where
  pub me : Addr
  pub links : List Link

-- the player, unless it is me
abbrev pub unless_me : (me q : ℕ) → List ℕ
unless_me me q = if q == me then [] else q ∷ []

-- the players below this number but me, rising
abbrev pub others : (me players : ℕ) → List ℕ
others me zero = []
others me (suc q) = others me q ++ unless_me me q

-- there is one link to each other player, rising, and no other
abbrev pub LinksOthers : (me players : ℕ) → Neighbours → Type 0
LinksOthers me players r = map (λ l. l.player) r.links ≡ others me players
