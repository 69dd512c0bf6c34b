-- Laws: where two logs resolve one turn of one player by different moves, a report on them says so.
use Rattle.std.specs.Prelude.{◌≡◌, ◌<◌, ◌⊎◌, ℕ, List, Some, slice_get}
use Rattle.definitions.specs.declared.world.Move.{Move}
use Rattle.definitions.specs.declared.logs.Entry.{Entry}
use Rattle.definitions.specs.declared.findings.Finding.{Finding}
use Rattle.definitions.specs.declared.findings.Kind.TheVariants.{Collision, TwoCommits}
use Rattle.definitions.specs.World.{Game, players_of}
use Rattle.definitions.specs.Findings.{got_known}
use Rattle.definition_laws.specs.Members.{Has}
use Rattle.auditor.specs.Reports.{Reported, found_in}
use Rattle.log_files.specs.Audited.{Audits, logs_of}

-- the report lists two commitments of the player's turn, or a collision
pub record TellsTwoFaces (r : Reported) (q t : ℕ) : Type 0 where
  pub finding : Finding
  pub listed : Has (found_in r) finding
  pub of_turn : (finding.player ≡ q) × (finding.turn ≡ t)
  pub kind : (finding.kind ≡ TwoCommits) ⊎ (finding.kind ≡ Collision)

-- where two of the logs resolve the turn by different moves, by frames that they got
abbrev pub DifferentMovesAreReported : Type 0
DifferentMovesAreReported = (game : Game) (texts : List (List ℕ)) (r : Reported) (i j q t : ℕ) (g h : List Entry) (m k : Move) → Audits game texts r → q < players_of game →
    slice_get (logs_of game texts) i ≡ Some g → slice_get (logs_of game texts) j ≡ Some h →
    slice_get (got_known game q g).moves t ≡ Some m → slice_get (got_known game q h).moves t ≡ Some k → (m ≡ k → ⊥) → TellsTwoFaces r q t
