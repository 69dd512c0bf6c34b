-- Lines: the printed lines of an audit.
use Rattle.std.specs.Prelude.{ℕ, List, [], ◌++◌, Option, Some, None, codes, decimal, flat_map}
use Rattle.std.specs.List.{range_with_len}
use Rattle.definitions.specs.declared.findings.Finding.{Finding}
use Rattle.definitions.specs.declared.findings.Spot.{Spot}
use Rattle.text_fields.specs.Kinds.{kind_name}
use Rattle.auditor.specs.declared.world.WorldLine.{WorldLine}
use Rattle.report_lines.specs.Lines.{world_line_text}

-- a spot: the log's number and the entry's, each behind a space
unfoldable pub spot_text : Spot → List ℕ
spot_text s = codes " " ++ decimal s.log ++ codes " " ++ decimal s.entry

-- of a finding: the player, the turn, what is found, and its two spots
unfoldable pub finding_line : Finding → List ℕ
finding_line f =
    codes "finding " ++ decimal f.player ++ codes " " ++ decimal f.turn ++ codes " " ++ kind_name f.kind ++ spot_text f.first ++ spot_text f.second ++ codes "\n"

-- of a player: how many of its turns are agreed
unfoldable pub agreed_line : (q count : ℕ) → List ℕ
agreed_line q count = codes "agreed " ++ decimal q ++ codes " " ++ decimal count ++ codes "\n"

-- of a player: where it stands behind the last turn, with which charge, and the hits that it gave and took, where that is told
abbrev pub told_line : (q : ℕ) → Option WorldLine → List ℕ
told_line q None = []
told_line q (Some line) = world_line_text q line.track line.score.given line.score.taken

-- in place of all these, where some turn of some player isn't agreed
abbrev pub no_world_line : List ℕ
no_world_line = codes "world none\n"

-- the lines of so many players from the first on, by how many turns of each are agreed
unfoldable pub agreed_lines : (ℕ → ℕ) → (first many : ℕ) → List ℕ
agreed_lines count first many = flat_map (λ q. agreed_line q (count q)) (range_with_len first many)

-- the lines of so many players from the first on, by what is told of each
unfoldable pub world_lines : (ℕ → Option WorldLine) → (first many : ℕ) → List ℕ
world_lines line first many = flat_map (λ q. told_line q (line q)) (range_with_len first many)
