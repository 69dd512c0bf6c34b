-- Report: what is written of a peer as it stands.
use Rattle.std.specs.Prelude.{ℕ, not, List, [], length, flat_map, if◌then◌else◌}
use Rattle.std.specs.List.{range_with_len}
use Rattle.definitions.specs.declared.logs.Entry.{Entry}
use Rattle.definitions.specs.World.{Game}
use Rattle.definitions.specs.Logs.{chosen}
use Rattle.definitions.specs.Findings.{is_clean}
use Rattle.definitions.specs.Needs.{needs, may_choose}
use Rattle.definitions.specs.Settled.{settled}
use Rattle.peer_core.specs.Views.{player_view}
use Rattle.peer_core.specs.Scoring.{settled_score}
use Rattle.report_lines.specs.Lines.{due_text, needs_text, player_text, score_text}

-- what is written where the own score is to be printed: how many turns of the log's owner are settled, and what they count
unfoldable pub own_score_text : Game → ℕ → List Entry → List ℕ
own_score_text game me h = score_text (settled game me h) (settled_score game me h).given (settled_score game me h).taken

-- how the log's owner stands: it may choose, or it waits, or it is done; nothing where the log has a finding
unfoldable pub stand_text : Game → ℕ → List Entry → List ℕ
stand_text game me h = if not (is_clean game h) then [] else if may_choose game me h then due_text (length (chosen me h)) else needs_text (needs game me h)

-- what is written about a player, by what the log shows of it
abbrev pub viewed_text : Game → ℕ → List Entry → (q : ℕ) → List ℕ
viewed_text game me h q = let v = player_view game me h q in player_text q v.turns v.track v.next

-- what is written about so many players, from this one on
unfoldable pub players_text : Game → ℕ → List Entry → (first count : ℕ) → List ℕ
players_text game me h first count = flat_map (viewed_text game me h) (range_with_len first count)
