use Rattle.std.proofs.Common.{◌≡◌, List, length}
use Rattle.definitions.specs.declared.logs.Entry.{Entry}
use Rattle.frame_index.specs.Heads.{AreOpen, Stand, turn_at}
use Rattle.frame_index.specs.Keeps.{Keeps}
use Rattle.frame_index.proofs.Headed.{Halfway}
use Rattle.frame_index.proofs.heads.step_all.Given as goal

abbrev pub invariant-loop-log : goal.invariant-loop-log
invariant-loop-log l = record {
  long : length l.heads ≡ 64;
  tracks : AreOpen l.session l.heads;
  half : (logs : List (List Entry)) → Keeps l.session l.player (turn_at l.session l.place) logs l.seen → Stand l.session l.player logs l.place l.initial.heads →
      Halfway l.session l.player logs l.place l.log l.heads;
}
