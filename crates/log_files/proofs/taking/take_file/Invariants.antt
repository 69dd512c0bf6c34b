use Rattle.std.proofs.Common.{◌-◌}
use Rattle.definitions.specs.declared.limits.TheConstants.{LONGEST_LOG}
use Rattle.log_files.proofs.Reached.{Reached}
use Rattle.log_files.proofs.taking.take_file.Given as goal

abbrev pub invariant-pieces : goal.invariant-pieces
invariant-pieces g l = Reached l.session (g.H.Shelf.state l.initial.shelf) (g.H.Shelf.state l.shelf) l.name l.initial.auditor l.auditor l.log l.feed l.at

abbrev pub decreases-pieces : goal.decreases-pieces
decreases-pieces g l = LONGEST_LOG - l.at
