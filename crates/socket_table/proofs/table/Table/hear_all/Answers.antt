use Rattle.socket_table.specs.declared.table.TheConstants.{MOST_TAKEN}
use Rattle.socket_table.proofs.Heard.{hears_one}
use Rattle.socket_table.proofs.table.Table.hear_all.Goals as goal

pub loop-frame-preserved : goal.loop-frame-preserved
loop-frame-preserved g c =
    hears_one (g.H.Hears.hearer c.args.hears.now) c.args.socket c.args.place (g.H.Hears.players c.args.hears.now) MOST_TAKEN c.args.self.now c.loop-frame.self c.hear.new.self c.args.frames.now c.loop-frame.frame-index _
    c.loop-frame-test.true c.loop-frame.invariant c.hear.ensures
