use Rattle.ready_loop.proofs.Served.{ShuttingAll}
use Rattle.ready_loop.proofs.ready.Loop.shut_all.Given as goal

abbrev pub invariant-loop-place : goal.invariant-loop-place
invariant-loop-place g l = ShuttingAll l.place (g.S.Station.history l.fn.station) (g.S.Station.history l.station) l.fn.self l.self
