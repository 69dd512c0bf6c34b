use Rattle.std.proofs.Common.{◌≡◌, length}
use Rattle.station_mio.proofs.Going.{WentOn}
use Rattle.station_mio.proofs.dialling.go_on_all.Given as goal

abbrev pub invariant-loop-place : goal.invariant-loop-place
invariant-loop-place g l =
    WentOn l.now l.place l.initial.rows l.rows (g.H.Host.history l.initial.host) (g.H.Host.history l.host) × (length l.rows ≡ length l.initial.rows)
