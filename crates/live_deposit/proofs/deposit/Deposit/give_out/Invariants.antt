use Rattle.live_deposit.specs.Writing.{log_left}
use Rattle.live_deposit.proofs.Served.{GivingOut}
use Rattle.live_deposit.proofs.deposit.Deposit.give_out.Given as goal

abbrev pub invariant-pieces : goal.invariant-pieces
invariant-pieces g l = GivingOut l.log (g.S.Station.history l.fn.station) (g.S.Station.history l.station) (g.H.Shelf.state l.fn.shelf) (g.H.Shelf.state l.shelf) l.fn.self l.self

abbrev pub decreases-pieces : goal.decreases-pieces
decreases-pieces g l = log_left l.self.line l.self.line.cursor
