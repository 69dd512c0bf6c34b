use Rattle.std.proofs.Common.{List}
use Rattle.definitions.specs.declared.logs.Entry.{Entry}
use Rattle.frame_index.specs.Frames.{IsIndex}
use Rattle.frame_index.specs.Heads.{AreOpen, Stand}
use Rattle.frame_index.proofs.heads.read_first.Given as goal

abbrev pub invariant-loop-place : goal.invariant-loop-place
invariant-loop-place l = record {
  tracks : AreOpen l.session l.heads;
  stand : (logs : List (List Entry)) → IsIndex l.session logs l.index → Stand l.session l.player logs 0 l.initial.heads →
      Stand l.session l.player logs l.place l.heads;
}
