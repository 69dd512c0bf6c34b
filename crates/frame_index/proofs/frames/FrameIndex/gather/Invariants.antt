use Rattle.std.proofs.Common.{◌≡◌, ◌++◌, drop}
use Rattle.std.specs.Prelude.{flat_map}
use Rattle.frame_index.specs.Frames as F
use Rattle.frame_index.specs.Kept.{seen_of}
use Rattle.frame_index.proofs.frames.FrameIndex.gather.Given as goal

abbrev pub invariant-loop-one : goal.invariant-loop-one
invariant-loop-one l = l.out.items ++ flat_map seen_of (drop l.one-index (F.kept_of l.self l.player l.turn)) ≡ flat_map seen_of (F.kept_of l.self l.player l.turn)
