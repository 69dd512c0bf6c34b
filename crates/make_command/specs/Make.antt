-- Make: the answer to the command.
use Rattle.std.specs.Prelude.{ℕ, ◌+◌, List, [], ◌∷◌, ◌++◌, codes, decimal}
use Rattle.auditor.specs.declared.world.WorldLine.{WorldLine}
use Rattle.report_lines.specs.Lines.{end_line_text, world_line_text}
use Rattle.run_frame.specs.Frame.{Answer}
use Rattle.run_frame.specs.declared.statuses.Status.TheVariants.{Done}
use Rattle.make_command.specs.declared.summary.Summary.{Summary}
use Rattle.make_command.specs.Summaries.{made_match, summary_of}

-- before the lines of the players: the session's size, and what was counted
unfoldable pub head_text : Summary → List ℕ
head_text s =
    codes "players 8 turns 200\nchosen " ++ decimal s.chosen ++ codes "\ndelivered " ++ decimal s.delivered ++ codes "\nlost " ++ decimal s.lost ++ codes "\nrepeated " ++ decimal s.repeated ++ codes "\nfindings " ++ decimal s.findings ++ codes "\n"

-- of a player: where it stands behind the last turn, with which charge, and the hits that it gave and took
abbrev pub player_line : (q : ℕ) → WorldLine → List ℕ
player_line q line = world_line_text q line.track line.score.given line.score.taken

-- of the players from q on
abbrev pub player_lines : (q : ℕ) → List WorldLine → List ℕ
player_lines q [] = []
player_lines q (line ∷ lines) = player_line q line ++ player_lines (q + 1) lines

-- in place of these, where some turn of some player isn't agreed
abbrev pub world_text : List WorldLine → List ℕ
world_text [] = codes "world none\n"
world_text (line ∷ lines) = player_lines 0 (line ∷ lines)

-- what is written of a summary
unfoldable pub summary_text : Summary → List ℕ
summary_text s = head_text s ++ world_text s.players ++ end_line_text

-- The answer to the command for this number.
abbrev pub make_answer : (number : ℕ) → Answer
make_answer number = record { body = summary_text (summary_of (made_match number)); status = Done }
