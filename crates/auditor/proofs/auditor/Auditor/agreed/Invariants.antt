use Rattle.std.proofs.Common.{List, length, map, ◌≡◌}
use Rattle.std.specs.List.{range_with_len}
use Rattle.definitions.specs.declared.logs.Entry.{Entry}
use Rattle.frame_index.specs.Plain.{AreClear}
use Rattle.auditor.specs.Agreed.{agreed_moves}
use Rattle.auditor.specs.Reading.{IsReadable}
use Rattle.auditor.proofs.auditor.Auditor.agreed.Given as goal

abbrev pub invariant-loop-player : goal.invariant-loop-player
invariant-loop-player l = record {
  many : length l.counts.items ≡ l.player;
  clear_many : length l.clear.items ≡ l.player;
  clear : AreClear l.self.session l.self.index l.clear.items;
  counts : l.counts.items ≡ map (λ own. length own.items) l.moves.items;
  moves : (logs : List (List Entry)) → IsReadable l.self logs → map (λ own. own.items) l.moves.items ≡ map (agreed_moves l.self.session l.self.owners logs) (range_with_len 0 l.player);
}
