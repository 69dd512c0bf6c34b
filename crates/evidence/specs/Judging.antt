-- Judging: the words by which frames are judged, two by two.
use Rattle.std.specs.Prelude.{ℕ, Bool, false, ◌&&◌, Option, None, if◌then◌else◌}
use Rattle.definitions.specs.declared.world.Move.{Move}
use Rattle.definitions.specs.declared.frames.TurnFrame.{TurnFrame}
use Rattle.definitions.specs.declared.findings.Kind.{Kind}
use Rattle.definitions.specs.declared.findings.Kind.TheVariants.{TwoCommits, BadOpening, Collision, Illegal}
use Rattle.definitions.specs.World.{Game}
use Rattle.definitions.specs.Logs.{move_shown}
use Rattle.definitions.specs.Findings.{are_two_commits, are_bad_opening, are_collision}
use Rattle.definitions.specs.Exhibits.{is_of_turn, is_opened_by}

-- the two frames show this kind, where it is one that two frames of a turn show; an illegal move is shown turn by turn
abbrev pub pair_shows : Game → Kind → TurnFrame → TurnFrame → Bool
pair_shows game TwoCommits f g = are_two_commits game f g
pair_shows game BadOpening f g = are_bad_opening game f g
pair_shows game Collision f g = are_collision game f g
pair_shows game Illegal f g = false

-- the move of the player's turn, where the first frame commits to it and the second one opens that
abbrev pub move_opened : Game → ℕ → ℕ → TurnFrame → TurnFrame → Option Move
move_opened game q t f g = if is_of_turn q t f && is_of_turn q t g && is_opened_by game f g then move_shown g else None
