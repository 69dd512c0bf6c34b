use Rattle.station_mio.specs.Rows.{stands_of}
use Rattle.station_mio.proofs.Places.{Passed}
use Rattle.station_mio.proofs.rows.place_of.Given as goal

abbrev pub invariant-loop-place : goal.invariant-loop-place
invariant-loop-place g l = Passed l.number l.place (stands_of g.S.Numbered.number l.rows)
