-- Told: what is behind the text of an accusation.
use Rattle.std.specs.Prelude.{◌≡◌, ◌≤◌, ℕ, List, ◌++◌, Ok, length, IsTrue}
use Rattle.definitions.specs.declared.findings.Finding.{Finding}
use Rattle.definitions.specs.Lists.{EachIs}
use Rattle.definitions.specs.World.{Game}
use Rattle.definition_laws.specs.Members.{Has}
use Rattle.session_log.specs.Laws.{AreBytes}
use Rattle.sealed_evidence.specs.declared.sealed.SealedExhibit.{SealedExhibit}
use Rattle.sealed_evidence.specs.Judging.{shows_sealed}
use Rattle.sealed_text.specs.declared.limits.TheConstants.{MOST_SEALED_FRAMES}
use Rattle.sealed_text.specs.Reading.{sealed_at}
use Rattle.sealed_text.specs.Text.{sealed_text}
use Rattle.file_commands.specs.AuditLines.{finding_line}
use Rattle.accuser.specs.Accused.{sealed_of}
use Rattle.accuse_command.specs.Accuse.{accuse_text, found_by, text_if_few}

-- in the text stands the finding's line, and right after it the text of the exhibit
pub record StandsInText (text : List ℕ) (f : Finding) (x : SealedExhibit) : Type 0 where
  pub front : List ℕ
  pub back : List ℕ
  pub parts : text ≡ front ++ (finding_line f ++ text_if_few x) ++ back

-- What the text tells of a finding, by an exhibit with seals.
pub record TellsFinding (game : Game) (roots : List (List ℕ)) (text : List ℕ) (f : Finding) (x : SealedExhibit) : Type 0 where
  -- the two stand in it
  pub stands : StandsInText text f x
  -- the exhibit is of this finding
  pub accuses : (x.exhibit.player ≡ f.player) × (x.exhibit.turn ≡ f.turn) × (x.exhibit.kind ≡ f.kind)
  -- whoever has the session and the roots judges that its frames show it, and are all sealed
  pub shows : IsTrue (shows_sealed game roots x)
  -- and unless it has more frames than a text may say, its text is read as it
  pub read : length x.exhibit.frames ≤ MOST_SEALED_FRAMES → sealed_at game (sealed_text x) ≡ Ok x

-- What is behind the text of an accusation by these files: whatever their frames show together is
-- told, and by an exhibit that shows it to whoever trusts none of the files.
pub record TellsAccusation (game : Game) (roots files : List (List ℕ)) (text : List ℕ) : Type 0 where
  pub text_is : text ≡ accuse_text game roots files
  pub told : (f : Finding) → Has (found_by game roots files) f → TellsFinding game roots text f (sealed_of game roots files f)

-- the bytes of each file are bytes
abbrev pub AreAllBytes : List (List ℕ) → Type 0
AreAllBytes files = EachIs AreBytes files
