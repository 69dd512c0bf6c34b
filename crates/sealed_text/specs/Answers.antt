-- Answers: what reading a sealed exhibit answers.
use Rattle.std.specs.Prelude.{◌≡◌, ℕ, List}
use Rattle.definitions.specs.World.{Game}
use Rattle.sealed_evidence.specs.declared.sealed.SealedExhibit.{SealedExhibit}
use Rattle.sealed_text.specs.Text.{IsSealed, sealed_text}

-- a sealed exhibit of the session that a text may say, and its text
pub record IsReadFrom (game : Game) (x : SealedExhibit) (text : List ℕ) : Type 0 where
  pub sealed : IsSealed game x
  pub text_is : text ≡ sealed_text x
