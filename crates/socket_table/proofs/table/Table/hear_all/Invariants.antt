use Rattle.std.proofs.Common.{drop}
use Rattle.socket_table.specs.declared.table.TheConstants.{MOST_TAKEN}
use Rattle.socket_table.proofs.Heard.{Hearing}
use Rattle.socket_table.proofs.table.Table.hear_all.Given as goal

abbrev pub invariant-loop-frame : goal.invariant-loop-frame
invariant-loop-frame g l = Hearing (g.H.Hears.hearer l.hears) l.socket l.place (g.H.Hears.players l.hears) MOST_TAKEN l.fn.self l.self l.frames (drop l.frame-index l.frames)
