use Rattle.std.proofs.Common.{◌≡◌, take}
use Rattle.std.specs.Prelude.{filter_map}
use Rattle.accuser.specs.SealBooks.{seal_in}
use Rattle.accuser.proofs.sealed_report.seals_of.Given as goal

abbrev pub invariant-loop-frame : goal.invariant-loop-frame
invariant-loop-frame l = l.seals.items ≡ filter_map (seal_in l.book) (take l.frame-index l.frames)
