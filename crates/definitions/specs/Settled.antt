-- Settled turns: those of which no received frame can change what the owner gave and took.
use Rattle.std.specs.Prelude.{ℕ, zero, suc, ◌+◌, Bool, false, ◌&&◌, ◌==◌, List, if◌then◌else◌}
use Rattle.std.specs.List.{list_any, list_all}
use Rattle.definitions.specs.declared.frames.TurnFrame.{TurnFrame}
use Rattle.definitions.specs.declared.frames.TurnFrame.TheVariants.{Commit, Reveal}
use Rattle.definitions.specs.declared.logs.Entry.{Entry}
use Rattle.definitions.specs.World.{Game}
use Rattle.definitions.specs.Logs.{made}
use Rattle.definitions.specs.Honest.{others, lets_commit}

-- a reveal of the turn
abbrev pub is_reveal_of : ℕ → TurnFrame → Bool
is_reveal_of t (Commit p u d) = false
is_reveal_of t (Reveal p u m n) = u == t

-- the owner's reveal of the turn is made, and each other player's turn is resolved or does not meet the owner
unfoldable pub is_settled : Game → ℕ → List Entry → ℕ → Bool
is_settled game me h t = list_any (is_reveal_of t) (made h) && list_all (lets_commit game me h t) (others game me)

-- how many of the n turns from t on are settled without a gap
abbrev pub settled_from : Game → ℕ → List Entry → (n t : ℕ) → ℕ
settled_from game me h zero t = 0
settled_from game me h (suc n) t = if is_settled game me h t then 1 + settled_from game me h n (t + 1) else 0

-- how many turns from the first on are settled without a gap
unfoldable pub settled : Game → ℕ → List Entry → ℕ
settled game me h = settled_from game me h game.turns 0
