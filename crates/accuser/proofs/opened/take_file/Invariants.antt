use Rattle.std.proofs.Common.{◌-◌}
use Rattle.definitions.specs.declared.limits.TheConstants.{LONGEST_LOG}
use Rattle.accuser.proofs.Reached.{Reached}
use Rattle.accuser.proofs.opened.take_file.Given as goal

abbrev pub invariant-pieces : goal.invariant-pieces
invariant-pieces g l = Reached l.session l.roots (g.H.Shelf.state l.initial.shelf) (g.H.Shelf.state l.shelf) l.name l.initial.taker l.taker l.file l.feed l.at

abbrev pub decreases-pieces : goal.decreases-pieces
decreases-pieces g l = LONGEST_LOG - l.at
