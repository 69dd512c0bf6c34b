-- What reading an exhibit answers.
use Rattle.std.specs.Prelude.{◌≡◌, ℕ, List}
use Rattle.evidence.specs.declared.exhibit.Exhibit.{Exhibit}
use Rattle.evidence.specs.Text.{IsExhibit, exhibit_text}

-- an exhibit that a text may say, and its text
pub record IsReadFrom (x : Exhibit) (text : List ℕ) : Type 0 where
  pub exhibit : IsExhibit x
  pub text_is : text ≡ exhibit_text x
