-- OfTurn: what commits a turn is of the turn.
use Rattle.std.proofs.Common.{Bool, None, Some, false, true, refl, ℕ, ◌≡◌}
use Rattle.std.specs.Prelude.{◌==◌, if◌then◌else◌}
use Rattle.std.proofs.lemmas.Bool.{eqb-true}
use Rattle.definitions.specs.declared.openings.Digest.{Digest}
use Rattle.definitions.specs.declared.frames.TurnFrame.{TurnFrame}
use Rattle.definitions.specs.declared.frames.TurnFrame.TheVariants.{Commit, Reveal}
use Rattle.definitions.specs.Held.{commit_of}
use Rattle.definitions.specs.Logs.{turn_of}

pub commit_turn : (t : ℕ) (f : TurnFrame) (y : Digest) → commit_of t f ≡ Some y → turn_of f ≡ t
commit_turn t (Reveal p u m n) y h = absurd (let e : None ≡ Some y = h in cc)
commit_turn t (Commit p u d) y h = go (u == t) refl h
  where
    go : (b : Bool) → (u == t) ≡ b → (if b then Some d else None) ≡ Some y → u ≡ t
    go true e h = eqb-true u t e
    go false e h = absurd (let e : None ≡ Some y = h in cc)
