use Rattle.std.proofs.Common.{List, length, ◌≡◌}
use Rattle.std.specs.Prelude.{filter_map}
use Rattle.std.specs.List.{range_with_len}
use Rattle.definitions.specs.declared.logs.Entry.{Entry}
use Rattle.frame_index.specs.declared.limits.TheConstants.{MOST_LOGS}
use Rattle.auditor.specs.Accords.{accord_of}
use Rattle.auditor.specs.Agreed.{AreOwned, resolved_at}
use Rattle.auditor.specs.Audits.{crossed_logs}
use Rattle.auditor.specs.Reading.{IsReadTurn}
use Rattle.auditor.proofs.auditor.Auditor.agreed_move.Given as goal

abbrev pub invariant-loop-log : goal.invariant-loop-log
invariant-loop-log l = record {
  noted :
      (logs : List (List Entry)) → length logs ≡ MOST_LOGS → AreOwned l.self.session l.self.owners logs → IsReadTurn l.self.session l.player logs l.turn l.readings.got →
      IsReadTurn l.self.session l.player (crossed_logs logs) l.turn l.readings.made →
      l.accord ≡ accord_of (filter_map (resolved_at l.self.session l.self.owners logs l.player l.turn) (range_with_len 0 l.log));
}
