-- SealedShows: what a sealed exhibit of a report is worth, whatever files the report is on.
use Rattle.std.specs.Prelude.{◌≡◌, ℕ, List, IsTrue}
use Rattle.definitions.specs.declared.findings.Finding.{Finding}
use Rattle.definitions.specs.World.{Game}
use Rattle.sealed_evidence.specs.declared.sealed.SealedExhibit.{SealedExhibit}
use Rattle.sealed_evidence.specs.Judging.{shows_sealed}
use Rattle.accuser.specs.Accused.{Accuses, sealed_of}
use Rattle.accuser.specs.SealedReports.{SealedReported}

-- where the report accuses by files, the exhibit is what shows the finding in them
abbrev pub IsSealedOf : SealedReported → Finding → SealedExhibit → Type 0
IsSealedOf r f x = (game : Game) (roots files : List (List ℕ)) → Accuses game roots files r → x ≡ sealed_of game roots files f

-- where the report accuses by files, whoever has the session and the roots judges that the exhibit
-- shows what it says, by frames that are all sealed
abbrev pub IsJudgedTrue : SealedReported → SealedExhibit → Type 0
IsJudgedTrue r x = (game : Game) (roots files : List (List ℕ)) → Accuses game roots files r → IsTrue (shows_sealed game roots x)
