-- Transferable: what sealed frames are worth where the judge says yes, in whosever log they stand.
use Rattle.std.specs.Prelude.{◌≡◌, ℕ, List, [], IsTrue}
use Rattle.definitions.specs.declared.frames.TurnFrame.{TurnFrame}
use Rattle.definitions.specs.Lists.{EachIs, item_or}
use Rattle.definitions.specs.World.{Game}
use Rattle.grid_world.specs.Sessions.{IsSession}
use Rattle.commitment.specs.Spelling.{FitsFrame}
use Rattle.seal_keys.specs.Keys.{root_of}
use Rattle.seal_keys.specs.States.{Keys}
use Rattle.seal_blame.specs.declared.how.How.{How}
use Rattle.seal_blame.specs.Made.{AreMade}
use Rattle.seal_blame.specs.Blames.{BlamesSo, IsFirstNew}
use Rattle.sealed_evidence.specs.declared.sealed.SealedExhibit.{SealedExhibit}
use Rattle.sealed_evidence.specs.Judging.{shows_sealed}

-- The keys are those of the player that the exhibit names, by that player's root among these. The
-- frames are what it made in fair play, one at a place.
pub record AreOfAccused (game : Game) (roots : List (List ℕ)) (x : SealedExhibit)
    (keys : Keys) (made : List TurnFrame) : Type 0 where
  pub game_is : keys.game ≡ game
  pub player_is : keys.player ≡ x.exhibit.player
  pub root_is : item_or roots x.exhibit.player [] ≡ root_of game keys.seed
  pub fair : AreMade game x.exhibit.player made

-- Some frame of the exhibit is the first that isn't among those made. It shows a secret that no
-- seal of the frames made discloses, or two byte strings with one digest.
pub record ShowsMore (keys : Keys) (made : List TurnFrame) (x : SealedExhibit) : Type 0 where
  pub number : ℕ
  pub how : How
  pub first : IsFirstNew made x.exhibit.frames number
  pub blames : BlamesSo keys made x.exhibit.frames x.seals number how

-- whatever keys have that root, and whatever the player made in fair play, the exhibit shows more
abbrev pub IsTransferable : Game → (roots : List (List ℕ)) → SealedExhibit → Type 0
IsTransferable game roots x = (keys : Keys) (made : List TurnFrame) →
    AreOfAccused game roots x keys made → ShowsMore keys made x

-- where the judge says yes in a session, of frames whose numbers fit their fields, it is so
abbrev pub JudgedEvidenceIsTransferable : Type 0
JudgedEvidenceIsTransferable = (game : Game) (roots : List (List ℕ)) (x : SealedExhibit) →
    IsSession game → EachIs FitsFrame x.exhibit.frames → IsTrue (shows_sealed game roots x) →
    IsTransferable game roots x
