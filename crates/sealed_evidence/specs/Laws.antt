-- Laws of sealed evidence.
use Rattle.std.specs.Prelude.{ℕ, List, [], IsTrue}
use Rattle.definitions.specs.Lists.{item_or}
use Rattle.definitions.specs.World.{Game}
use Rattle.seal_blame.specs.Blames.{are_valid}
use Rattle.sealed_evidence.specs.declared.sealed.SealedExhibit.{SealedExhibit}
use Rattle.sealed_evidence.specs.Judging.{shows_sealed}

-- where the judge says yes, each seal is valid under the root of the exhibit's player
abbrev pub JudgedSealsAreValid : Type 0
JudgedSealsAreValid = (game : Game) (roots : List (List ℕ)) (x : SealedExhibit) → IsTrue (shows_sealed game roots x) →
    IsTrue (are_valid game (item_or roots x.exhibit.player []) x.exhibit.frames x.seals)
