use Rattle.std.proofs.Common.{List, length, ◌≡◌, ◌≤◌}
use Rattle.std.specs.Prelude.{filter_map}
use Rattle.std.specs.List.{range_with_len}
use Rattle.definitions.specs.declared.logs.Entry.{Entry}
use Rattle.frame_index.specs.Heads.{AreOpen}
use Rattle.auditor.specs.Agreed.{agreed_move}
use Rattle.auditor.specs.Reading.{AreUpTo, IsReadable}
use Rattle.auditor.proofs.auditor.Auditor.agreed_each.Given as goal

abbrev pub invariant-loop-turn : goal.invariant-loop-turn
invariant-loop-turn l = record {
  few : length l.moves.items ≤ l.turn;
  got : AreOpen l.self.session l.readings.got.after;
  made : AreOpen l.self.session l.readings.made.after;
  put :
      (logs : List (List Entry)) → IsReadable l.self logs →
      AreUpTo l.self l.player logs l.turn l.readings × (l.moves.items ≡ filter_map (agreed_move l.self.session l.self.owners logs l.player) (range_with_len 0 l.turn));
}
