use Rattle.live_deposit.proofs.Polled.{SendingOut}
use Rattle.live_deposit.proofs.deposit.Deposit.send.Given as goal

abbrev pub invariant-rounds : goal.invariant-rounds
invariant-rounds g l = SendingOut l.log l.polls l.left (g.S.Station.history l.fn.station) (g.S.Station.history l.station) (g.H.Shelf.state l.fn.shelf) (g.H.Shelf.state l.shelf) l.fn.self l.self

abbrev pub decreases-rounds : goal.decreases-rounds
decreases-rounds g l = l.left
