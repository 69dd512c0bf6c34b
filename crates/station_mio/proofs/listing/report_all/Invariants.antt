use Rattle.std.proofs.Common.{◌≡◌, take}
use Rattle.station_mio.specs.Listing.{seen_of, report_all}
use Rattle.station_mio.proofs.listing.report_all.Given as goal

abbrev pub invariant-loop-token : goal.invariant-loop-token
invariant-loop-token g l = seen_of l.rows l.backlog l.ready ≡ report_all (seen_of l.initial.rows l.initial.backlog l.initial.ready) (take l.token-index l.tokens)
