use Rattle.live_deposit.specs.Writing.{hello_left}
use Rattle.live_deposit.proofs.Written.{GreetingOut}
use Rattle.live_deposit.proofs.deposit.Deposit.greet_out.Given as goal

abbrev pub invariant-loop-self : goal.invariant-loop-self
invariant-loop-self g l = GreetingOut (g.S.Station.history l.fn.station) (g.S.Station.history l.station) l.fn.self l.self

abbrev pub decreases-loop-self : goal.decreases-loop-self
decreases-loop-self g l = hello_left l.self.line
