use Rattle.std.proofs.Common.{◌<◌, List}
use Rattle.definitions.specs.declared.logs.Entry.{Entry}
use Rattle.frame_index.specs.Heads.{Stand, front_of}
use Rattle.frame_index.specs.InLog.{NoneBelow}
use Rattle.frame_index.specs.Keeps.{Keeps}
use Rattle.frame_index.proofs.illegal.illegal.Given as goal

abbrev pub invariant-loop-log : goal.invariant-loop-log
invariant-loop-log l = (logs : List (List Entry)) → l.turn < l.session.turns → Keeps l.session l.player l.turn logs l.seen → Stand l.session l.player logs (front_of l.session l.turn) l.heads →
    NoneBelow l.session l.player l.turn logs l.log
