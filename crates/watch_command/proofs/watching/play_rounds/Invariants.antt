use Rattle.std.proofs.Common.{◌-◌, ◌≤◌}
use Rattle.watch_command.proofs.Rounds.{IsUnderway}
use Rattle.watch_command.proofs.watching.play_rounds.Given as goal

abbrev pub invariant-rounds : goal.invariant-rounds
invariant-rounds g l = record {
  underway : IsUnderway l.fn.watch.view.setting l.made (g.S.Station.history l.station) l.watch;
  few : l.made ≤ l.polls;
}

abbrev pub decreases-rounds : goal.decreases-rounds
decreases-rounds g l = l.polls - l.made
