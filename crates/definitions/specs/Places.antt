-- Places: the order in which a player's frames stand in its stream.
use Rattle.std.specs.Prelude.{ℕ, Bool, ◌+◌, ◌-◌, ◌*◌, ◌==◌, min, if◌then◌else◌, nat_lt, Option, Some, None, find}
use Rattle.std.specs.List.{range_with_len}
use Rattle.definitions.specs.declared.frames.What.TheVariants.{Commit, Reveal}
use Rattle.definitions.specs.declared.places.Slot.{Slot}
use Rattle.definitions.specs.World.{Game}

-- the place of the turn's commitment
unfoldable pub commit_place : Game → ℕ → ℕ
commit_place game t = if nat_lt t game.turns then t + (t + 1 - game.ahead) else 2 * t

-- the place of the turn's reveal
unfoldable pub reveal_place : Game → ℕ → ℕ
reveal_place game t = if nat_lt t game.turns then t + min (t + game.ahead) game.turns else 2 * t + 1

-- A commitment comes next, behind so many commitments and the reveals of so many resolved turns: while fewer than `ahead` turns beyond
-- the resolved ones are committed, and turns are left.
abbrev pub commits_next : Game → (commits resolved : ℕ) → Bool
commits_next game commits resolved = nat_lt commits (min (resolved + game.ahead) game.turns)

-- the commitment of the turn, if there is one, and otherwise the reveal of the other, if there is one
abbrev pub slot_or : Option ℕ → Option ℕ → Option Slot
slot_or (Some t) o = Some (record { what = Commit; turn = t })
slot_or None (Some t) = Some (record { what = Reveal; turn = t })
slot_or None None = None

-- the frame of this place, or none past the last turn
unfoldable pub slot_at : Game → ℕ → Option Slot
slot_at game place =
    slot_or (find (λ t. commit_place game t == place) (range_with_len 0 game.turns))
    (find (λ t. reveal_place game t == place) (range_with_len 0 game.turns))
