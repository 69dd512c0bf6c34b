-- Report: what is written of a peer's log and at the end.
use Rattle.std.specs.Prelude.{ℕ, List, [], ◌∷◌, ◌++◌, codes}
use Rattle.hex.specs.Hex.{encode_lower}
use Rattle.definitions.specs.declared.logs.Entry.{Entry}
use Rattle.definitions.specs.World.{Game, players_of}
use Rattle.session_log.specs.Spelling.{log_bytes}
use Rattle.report_lines.specs.Lines.{end_line_text}
use Rattle.report_lines.specs.Report.{players_text, stand_text}

-- the bytes of a log as a field of a line, and nothing where there is none
abbrev pub log_field : List ℕ → List ℕ
log_field [] = []
log_field (b ∷ bytes) = codes " " ++ encode_lower (b ∷ bytes)

-- what is written where the log is to be printed: all of its bytes
unfoldable pub log_text : Game → ℕ → List Entry → List ℕ
log_text game me h = (codes "log" ++ log_field (log_bytes game.id me h)) ++ codes "\n"

-- what is written last: what the log shows of each player, and that this is the end
unfoldable pub last_text : Game → ℕ → List Entry → List ℕ
last_text game me h = players_text game me h 0 (players_of game) ++ end_line_text

-- what is written at the end: how the owner stands, and then the players
unfoldable pub end_text : Game → ℕ → List Entry → List ℕ
end_text game me h = stand_text game me h ++ last_text game me h
