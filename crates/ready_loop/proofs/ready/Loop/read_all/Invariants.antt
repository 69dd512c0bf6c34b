use Rattle.ready_loop.proofs.ReadAll.{ReadingAll}
use Rattle.ready_loop.proofs.ready.Loop.read_all.Given as goal

abbrev pub invariant-loop-place : goal.invariant-loop-place
invariant-loop-place g l = ReadingAll l.place (g.S.Station.history l.fn.station) (g.S.Station.history l.station) l.fn.self l.self
