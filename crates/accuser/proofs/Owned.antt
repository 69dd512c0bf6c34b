-- Owned: each frame of a file's entries is one that was got of its player, of a turn that is played.
use Rattle.std.proofs.Common.{◌≡◌, ◌<◌, true, List, [], ◌∷◌, ℕ, refl}
use Rattle.std.specs.Prelude.{map}
use Rattle.std.proofs.lemmas.Bool.{and_parts, ltb-true}
use Rattle.definitions.specs.declared.frames.TurnFrame.{TurnFrame}
use Rattle.definitions.specs.Lists.{EachIs}
use Rattle.definitions.specs.World.{Game}
use Rattle.definitions.specs.Logs.{turn_of}
use Rattle.seal_keys.specs.Seals.{is_valid}
use Rattle.sealed_evidence.specs.Judging.{is_sealed}
use Rattle.sealed_files.specs.SealedFrames.{SealedFrame}
use Rattle.sealed_files.proofs.Begun.{HasValidSeal, all_valid}
use Rattle.accuser.specs.Accused.{as_entry, logs_of}
use Rattle.accuser.proofs.Cleaned.{IsOwnGot}

valid_played : (game : Game) (root : List ℕ) (f : TurnFrame) (s : List ℕ) → is_valid game root f s ≡ true → turn_of f < game.turns
unfolding is_valid
valid_played game root f s e = ltb-true (turn_of f) game.turns (and_parts _ _ (and_parts _ _ e).0).0

sealed_played : (game : Game) (roots : List (List ℕ)) (f : TurnFrame) (s : List ℕ) → is_sealed game roots f s ≡ true → turn_of f < game.turns
sealed_played game roots f s e = valid_played game _ f s (and_parts _ _ e).1

entries_own : (game : Game) (roots : List (List ℕ)) (ss : List SealedFrame) → EachIs (HasValidSeal game roots) ss → EachIs (IsOwnGot game) (map as_entry ss)
entries_own game roots [] all = tt
entries_own game roots (s ∷ ss) all = ((s.frame, refl, sealed_played game roots s.frame s.seal all.0), entries_own game roots ss all.1)

pub logs_own : (game : Game) (roots files : List (List ℕ)) → EachIs (λ h. EachIs (IsOwnGot game) h) (logs_of game roots files)
logs_own game roots [] = tt
logs_own game roots (bytes ∷ files) = (entries_own game roots _ (all_valid game roots _ bytes), logs_own game roots files)
