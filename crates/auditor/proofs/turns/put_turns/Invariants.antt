use Rattle.std.proofs.Common.{◌≡◌, ◌++◌, ◌≤◌, List, Some, slice_get, length, take, IsTrue}
use Rattle.std.specs.Prelude.{flat_map}
use Rattle.std.specs.List.{range_with_len}
use Rattle.definitions.specs.declared.logs.Entry.{Entry}
use Rattle.definitions.specs.Findings as D
use Rattle.definitions.specs.Logs.{got_of}
use Rattle.definitions.specs.Moves.{track_after}
use Rattle.definitions.specs.World.{is_open}
use Rattle.frame_index.specs.Frames.{IsIndex}
use Rattle.evidence.specs.Showing.{turn_shown}
use Rattle.auditor.proofs.turns.put_turns.Given as goal

abbrev pub invariant-loop-before : goal.invariant-loop-before
invariant-loop-before l = record {
  here : IsTrue (is_open l.session.grid l.track.at);
  shown :
      (logs : List (List Entry)) (h : List Entry) → IsIndex l.session logs l.index → slice_get logs l.log ≡ Some h → l.turn ≤ length (D.got_known l.session l.player h).moves →
      (l.out.items ≡ l.fn.out.items ++ flat_map (turn_shown l.session l.player (D.got_known l.session l.player h) (got_of l.player h)) (range_with_len 0 l.before)) ×
      (l.track ≡ track_after l.session l.player (take l.before (D.got_known l.session l.player h).moves));
}
