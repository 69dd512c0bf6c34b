-- Passes: the pass by which a player is known.
use Rattle.std.specs.Prelude.{◌≡◌, ℕ, List}
use Rattle.definition_laws.specs.Members.{Has}
use Rattle.rosters.specs.declared.roster.Link.{Link}
use Rattle.rosters.specs.Rosters.{Neighbours}

-- the pass is the one that the roster wants of the player
abbrev pub IsWanted : Neighbours → (q : ℕ) → (pass : List ℕ) → Type 0
IsWanted roster q pass = (link : Link) × Has roster.links link × (link.player ≡ q) × (pass ≡ link.wants)
