-- Laws of the command: where two logs resolve one turn of one player by different moves, by frames that they got, the text shows it to
-- whoever has the session.
use Rattle.std.specs.Prelude.{◌≡◌, ℕ, ◌<◌, List, [], ◌∷◌, ◌++◌, Option, Some, Ok, slice_get}
use Rattle.sha2.specs.Sha256.{sha256}
use Rattle.definitions.specs.declared.world.Move.{Move}
use Rattle.definitions.specs.declared.openings.Digest.{Digest}
use Rattle.definitions.specs.declared.openings.Opening.{Opening}
use Rattle.definitions.specs.declared.frames.TurnFrame.{TurnFrame}
use Rattle.definitions.specs.declared.frames.TurnFrame.TheVariants.{Commit, Reveal}
use Rattle.definitions.specs.declared.logs.Entry.{Entry}
use Rattle.definitions.specs.declared.logs.Entry.TheVariants.{Chose, Made, Got}
use Rattle.definitions.specs.declared.findings.Kind.{Kind}
use Rattle.definitions.specs.declared.findings.Kind.TheVariants.{TwoCommits, Collision}
use Rattle.definitions.specs.declared.findings.Finding.{Finding}
use Rattle.definitions.specs.Lists.{EachIs}
use Rattle.definitions.specs.World.{Game, players_of}
use Rattle.definitions.specs.Openings.{opening}
use Rattle.definitions.specs.Findings.{findings, got_known}
use Rattle.definitions.specs.Exhibits.{Shows}
use Rattle.definition_laws.specs.Members.{Has}
use Rattle.grid_world.specs.Sessions.{IsSession}
use Rattle.evidence.specs.declared.exhibit.Exhibit.{Exhibit}
use Rattle.evidence.specs.Laws.{IsLogOf}
use Rattle.evidence.specs.Reading.{exhibit_at}
use Rattle.evidence.specs.Text.{FitsText, exhibit_text}
use Rattle.file_commands.specs.AuditLines.{finding_line}
use Rattle.file_commands.specs.Audit.{audit_text}

-- a frame that was got fits a text, as that of every value of its type does
abbrev pub GotFitsText : Entry → Type 0
GotFitsText (Chose t m n) = Unit {0}
GotFitsText (Made f) = Unit {0}
GotFitsText (Got q f) = FitsText f

-- all frames that the logs got do
abbrev pub AllFitText : List (List Entry) → Type 0
AllFitText logs = EachIs (λ h. EachIs GotFitsText h) logs

-- two commitments of the player to the turn, with different digests
pub record AreTwoCommitments (q t : ℕ) (fs : List TurnFrame) : Type 0 where
  pub one : Digest
  pub other : Digest
  pub frames : fs ≡ Commit q t one ∷ Commit q t other ∷ []
  pub differ : one ≡ other → ⊥

-- two reveals of the player's turn, whose openings are two byte strings with one SHA-256 digest
pub record AreTwoStrings (game : Game) (q t : ℕ) (fs : List TurnFrame) : Type 0 where
  pub one : Opening
  pub other : Opening
  pub players : (one.player ≡ q) × (other.player ≡ q)
  pub turns : (one.turn ≡ t) × (other.turn ≡ t)
  pub frames : fs ≡ Reveal one.player one.turn one.mv one.nonce ∷ Reveal other.player other.turn other.mv other.nonce ∷ []
  pub bytes_differ : opening game.id one ≡ opening game.id other → ⊥
  pub one_digest : sha256 (opening game.id one) ≡ sha256 (opening game.id other)

-- the frames are of one of these two forms, by the kind
abbrev pub AreTwoFaces : Game → (q t : ℕ) → Kind → List TurnFrame → Type 0
AreTwoFaces game q t TwoCommits fs = AreTwoCommitments q t fs
AreTwoFaces game q t Collision fs = AreTwoStrings game q t fs
AreTwoFaces game q t kind fs = ⊥

-- in the text stands the finding's line, and right behind it the text of the exhibit
pub record StandsInText (text : List ℕ) (f : Finding) (x : Exhibit) : Type 0 where
  pub front : List ℕ
  pub back : List ℕ
  pub parts : text ≡ front ++ (finding_line f ++ exhibit_text x) ++ back

-- The text of the audit shows two faces of the player in the turn.
pub record TellsTwoFaces (game : Game) (owners : List (Option ℕ)) (logs : List (List Entry)) (q t : ℕ) : Type 0 where
  -- there is a finding of it, whose line and evidence stand in the text
  pub finding : Finding
  pub exhibit : Exhibit
  pub listed : Has (findings game logs) finding
  pub of_turn : (finding.player ≡ q) × (finding.turn ≡ t)
  pub stands : StandsInText (audit_text game owners logs) finding exhibit
  -- the evidence is read as the exhibit, which has two commitments that differ, or two byte strings with one digest
  pub read : exhibit_at (exhibit_text exhibit) ≡ Ok exhibit
  pub accuses : (exhibit.player ≡ q) × (exhibit.turn ≡ t) × (exhibit.kind ≡ finding.kind)
  pub faces : AreTwoFaces game q t exhibit.kind exhibit.frames
  -- and to which whoever judges it in this session says yes
  pub shows : Shows game exhibit.player exhibit.turn exhibit.kind exhibit.frames

-- where two logs of the session, whoever wrote them, resolve a player's turn by different moves, by frames that they got, the text shows two
-- faces of the player
abbrev pub DifferentMovesAreTold : Type 0
DifferentMovesAreTold = (game : Game) (owners : List (Option ℕ)) (logs : List (List Entry)) (i j q t : ℕ) (g h : List Entry) (m k : Move) →
    IsSession game → EachIs (IsLogOf game) logs → AllFitText logs → q < players_of game →
    slice_get logs i ≡ Some g → slice_get logs j ≡ Some h → slice_get (got_known game q g).moves t ≡ Some m → slice_get (got_known game q h).moves t ≡ Some k →
    (m ≡ k → ⊥) → TellsTwoFaces game owners logs q t

-- What is behind the text of an audit of these logs: it shows two faces of each player of whom two of the logs resolve one turn by
-- different moves, by frames that they got.
pub record TellsAudit (game : Game) (owners : List (Option ℕ)) (logs : List (List Entry)) (text : List ℕ) : Type 0 where
  pub text_is : text ≡ audit_text game owners logs
  pub faces : (i j q t : ℕ) (g h : List Entry) (m k : Move) → q < players_of game → slice_get logs i ≡ Some g → slice_get logs j ≡ Some h →
      slice_get (got_known game q g).moves t ≡ Some m → slice_get (got_known game q h).moves t ≡ Some k → (m ≡ k → ⊥) → TellsTwoFaces game owners logs q t
