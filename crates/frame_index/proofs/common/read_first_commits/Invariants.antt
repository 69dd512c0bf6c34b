use Rattle.std.proofs.Common.{◌≡◌, Bool, List}
use Rattle.definitions.specs.declared.logs.Entry.{Entry}
use Rattle.frame_index.specs.Frames.{IsIndex}
use Rattle.frame_index.specs.Plain.{IsCommon}
use Rattle.frame_index.proofs.common.read_first_commits.Given as goal

abbrev pub invariant-loop-turn : goal.invariant-loop-turn
invariant-loop-turn l = record {
  track : l.common.track ≡ l.initial.common.track;
  read : (logs : List (List Entry)) (first : List Bool) → IsIndex l.session logs l.index → IsCommon l.session l.player logs first 0 0 l.initial.common →
      IsCommon l.session l.player logs first l.turn 0 l.common;
}
