use Rattle.ready_loop.specs.Serving.{work_at}
use Rattle.ready_loop.proofs.WriteAll.{WritingOut}
use Rattle.ready_loop.proofs.ready.Loop.write_out.Given as goal

abbrev pub invariant-loop-self : goal.invariant-loop-self
invariant-loop-self g l = WritingOut l.socket (g.S.Station.history l.fn.station) (g.S.Station.history l.station) l.fn.self l.self

abbrev pub decreases-loop-self : goal.decreases-loop-self
decreases-loop-self g l = work_at l.place l.self
