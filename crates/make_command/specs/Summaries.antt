-- Summaries: what is told of the match of a number.
use Rattle.std.specs.Prelude.{◌≡◌, ℕ, ◌≤◌, length}
use Rattle.definitions.specs.Findings.{findings}
use Rattle.make_command.specs.Making.{made_session}
use Rattle.schedule.specs.declared.stands.Stand.TheVariants.{Finished}
use Rattle.schedule.specs.Stands.{stand}
use Rattle.make_command.specs.declared.summary.Summary.{Summary}
use Rattle.make_command.specs.Audits.{audited_logs, world_lines}
use Rattle.make_command.specs.Matches.{Match, first_match, most_steps, played}

-- the match of a number at its end
unfoldable pub made_match : (number : ℕ) → Match
made_match number = played most_steps (first_match (made_session number) number)

-- the number of findings of its logs together
abbrev pub found_in_match : Match → ℕ
found_in_match m = length (findings m.game (audited_logs m.game m.logs))

-- what is told of a match: what was counted, how many findings its logs show together, and where each player stands
unfoldable pub summary_of : Match → Summary
summary_of m = record {
  chosen = m.counts.chosen;
  delivered = m.counts.delivered;
  lost = m.counts.lost;
  repeated = m.counts.repeated;
  findings = found_in_match m;
  players = world_lines m.game m.logs;
}

-- The match of a number comes to its end, whatever was lost: all players made all their frames and wait for no one. By then each chose for
-- each turn, each frame was delivered to each other player that lacked it, and no more were lost. The logs together accuse nobody, and agree
-- on all turns, so that it is told where each player stands.
pub record EndsFairly (number : ℕ) : Type 0 where
  pub finished : stand (made_match number).game (made_match number).logs ≡ Finished
  pub chosen : (made_match number).counts.chosen ≡ 1600
  pub delivered : (made_match number).counts.delivered ≡ 22400
  pub lost : (made_match number).counts.lost ≤ 22400
  pub fair : found_in_match (made_match number) ≡ 0
  pub told : length (world_lines (made_match number).game (made_match number).logs) ≡ 8

-- and so does that of every number
abbrev pub MatchesEnd : Type 0
MatchesEnd = (number : ℕ) → EndsFairly number
