-- Openings: an illegal move by what the player opened, turn by turn.
use Rattle.std.specs.Prelude.{◌≡◌, ℕ, suc, false, List, [], ◌∷◌, ◌++◌, length, map, flat_map}
use Rattle.definitions.specs.declared.world.Move.{Move}
use Rattle.definitions.specs.declared.openings.Opening.{Opening}
use Rattle.definitions.specs.declared.frames.TurnFrame.{TurnFrame}
use Rattle.definitions.specs.declared.frames.TurnFrame.TheVariants.{Commit, Reveal}
use Rattle.definitions.specs.World.{Game}
use Rattle.definitions.specs.Openings.{commitment}
use Rattle.definitions.specs.Moves.{AreLegal, is_legal, track_after}

-- the commitment to an opening, and the reveal of it
abbrev pub frames_of_opening : Game → Opening → List TurnFrame
frames_of_opening game o = Commit o.player o.turn (commitment game.id o) ∷ Reveal o.player o.turn o.mv o.nonce ∷ []

-- those of each, one opening behind the other
abbrev pub frames_of_openings : Game → List Opening → List TurnFrame
frames_of_openings game openings = flat_map (frames_of_opening game) openings

-- they are the player's, one a turn from this turn on
abbrev pub AreInTurn : (q t : ℕ) → List Opening → Type 0
AreInTurn q t [] = Unit {0}
AreInTurn q t (o ∷ openings) = (o.player ≡ q) × (o.turn ≡ t) × AreInTurn q (suc t) openings

-- the moves that they are of
abbrev pub moves_of : List Opening → List Move
moves_of openings = map (λ o. o.mv) openings

-- The player opened legal moves in the turns before this one, and in this one a move that is not legal after them.
pub record IsIllegalPlay (game : Game) (q t : ℕ) (before : List Opening) (last : Opening) : Type 0 where
  pub count : length before ≡ t
  pub in_turn : AreInTurn q 0 (before ++ last ∷ [])
  pub legal : AreLegal game q (moves_of before)
  pub illegal : is_legal game q (track_after game q (moves_of before)) last.mv ≡ false
