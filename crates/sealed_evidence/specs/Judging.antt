-- Judging: when sealed frames show what they are to show.
use Rattle.std.specs.Prelude.{ℕ, Bool, true, false, ◌&&◌, List, [], ◌∷◌, length, nat_lt}
use Rattle.definitions.specs.declared.frames.TurnFrame.{TurnFrame}
use Rattle.definitions.specs.Lists.{item_or}
use Rattle.definitions.specs.World.{Game}
use Rattle.definitions.specs.Logs.{player_of}
use Rattle.definitions.specs.Exhibits.{shows}
use Rattle.seal_keys.specs.Seals.{is_valid}
use Rattle.sealed_evidence.specs.declared.sealed.SealedExhibit.{SealedExhibit}

-- the seal is valid for the frame under the root of the frame's player, if that has one
abbrev pub is_sealed : Game → List (List ℕ) → TurnFrame → List ℕ → Bool
is_sealed game roots f s = nat_lt (player_of f) (length roots) && is_valid game (item_or roots (player_of f) []) f s

-- there are as many seals as frames, and each is valid for the frame at its place
abbrev pub are_sealed : Game → List (List ℕ) → List TurnFrame → List (List ℕ) → Bool
are_sealed game roots [] [] = true
are_sealed game roots [] (s ∷ ss) = false
are_sealed game roots (f ∷ fs) [] = false
are_sealed game roots (f ∷ fs) (s ∷ ss) = is_sealed game roots f s && are_sealed game roots fs ss

-- the frames show what the exhibit says, and each has a seal that is valid for it
abbrev pub shows_sealed : Game → List (List ℕ) → SealedExhibit → Bool
shows_sealed game roots x =
    shows game x.exhibit.player x.exhibit.turn x.exhibit.kind x.exhibit.frames && are_sealed game roots x.exhibit.frames x.seals
