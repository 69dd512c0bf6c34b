use Rattle.live_deposit.specs.Reading.{left_of}
use Rattle.live_deposit.proofs.Heard.{ReadingOut}
use Rattle.live_deposit.proofs.deposit.Deposit.read_out.Given as goal

abbrev pub invariant-loop-self : goal.invariant-loop-self
invariant-loop-self g l = ReadingOut (g.S.Station.history l.fn.station) (g.S.Station.history l.station) l.fn.self l.self

abbrev pub decreases-loop-self : goal.decreases-loop-self
decreases-loop-self g l = left_of l.self.line
