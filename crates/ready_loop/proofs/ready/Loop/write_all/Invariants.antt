use Rattle.ready_loop.proofs.WriteAll.{WritingAll}
use Rattle.ready_loop.proofs.ready.Loop.write_all.Given as goal

abbrev pub invariant-loop-place : goal.invariant-loop-place
invariant-loop-place g l = WritingAll l.place (g.S.Station.history l.fn.station) (g.S.Station.history l.station) l.fn.self l.self
