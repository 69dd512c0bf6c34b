use Rattle.std.proofs.Common.{◌≡◌, ◌≤◌, ◌++◌, List, length}
use Rattle.std.specs.Prelude.{flat_map}
use Rattle.std.specs.List.{range_with_len}
use Rattle.definitions.specs.declared.logs.Entry.{Entry}
use Rattle.definitions.specs.Findings.{findings_in}
use Rattle.frame_index.specs.declared.limits.TheConstants.{MOST_LOGS}
use Rattle.frame_index.specs.Frames.{IsIndex}
use Rattle.frame_index.specs.Heads.{AreOpen, Stand, front_of}
use Rattle.frame_index.proofs.listing.put_player.Given as goal

abbrev pub invariant-loop-turn : goal.invariant-loop-turn
invariant-loop-turn l = record {
  tracks : AreOpen l.session l.heads;
  stand : (logs : List (List Entry)) → IsIndex l.session logs l.index → Stand l.session l.player logs (front_of l.session l.turn) l.heads;
  found : (logs : List (List Entry)) → length logs ≤ MOST_LOGS → IsIndex l.session logs l.index →
      l.out.items ≡ l.initial.out.items ++ flat_map (findings_in l.session logs l.player) (range_with_len 0 l.turn);
}
