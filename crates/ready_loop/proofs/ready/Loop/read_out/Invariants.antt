use Rattle.ready_loop.specs.Handling.{left_at}
use Rattle.ready_loop.proofs.ReadAll.{ReadingOut}
use Rattle.ready_loop.proofs.ready.Loop.read_out.Given as goal

abbrev pub invariant-loop-self : goal.invariant-loop-self
invariant-loop-self g l = ReadingOut l.socket (g.S.Station.history l.fn.station) (g.S.Station.history l.station) l.fn.self l.self

abbrev pub decreases-loop-self : goal.decreases-loop-self
decreases-loop-self g l = left_at l.place l.self
