use Rattle.std.proofs.Common.{drop}
use Rattle.loop_rules.specs.After.{rested}
use Rattle.socket_table.proofs.Staying.{Listing}
use Rattle.socket_table.proofs.table.Table.polled.Given as goal

abbrev pub invariant-loop-item : goal.invariant-loop-item
invariant-loop-item l = Listing (rested l.fn.self) l.self l.ready (drop l.item-index l.ready)
