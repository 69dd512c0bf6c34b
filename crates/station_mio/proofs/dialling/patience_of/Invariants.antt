use Rattle.std.proofs.Common.{◌≡◌, take}
use Rattle.station_mio.specs.Waiting.{patience_of}
use Rattle.station_mio.proofs.dialling.patience_of.Given as goal

abbrev pub invariant-loop-row : goal.invariant-loop-row
invariant-loop-row g l = l.patience ≡ patience_of l.now (take l.row-index l.rows)
