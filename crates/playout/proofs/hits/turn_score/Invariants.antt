use Rattle.std.proofs.Common.{◌≡◌, ◌≤◌, drop}
use Rattle.playout.specs.Hits as H
use Rattle.playout.proofs.hits.turn_score.Given as goal

abbrev pub invariant-loop-player : goal.invariant-loop-player
invariant-loop-player l = record {
  all : H.plus l.score (H.score_among l.session l.me l.own l.player (drop l.player l.moves)) ≡ H.score_among l.session l.me l.own 0 l.moves;
  given : l.score.given ≤ l.player;
  taken : l.score.taken ≤ l.player;
}
