use Rattle.std.proofs.Common.{◌<◌, arith, length}
use Rattle.std.proofs.lemmas.Grind.{common_steps}
use Rattle.auditor.proofs.Viewed.{counts_one}
use Rattle.make_command.proofs.Taken.{taken_more}
use Rattle.make_command.proofs.auditing.take_entries.Goals as goal

pub loop-entry-preserved : goal.loop-entry-preserved
loop-entry-preserved c =
    let i = c.loop-entry.entry-index in
    let h = c.in_ok-take.ensures in
    let one = counts_one c.loop-entry.auditor c.take.new.self c.args.log tt h.after in
    let lt : i < length c.args.entries.now = grind (arith, common_steps) in
    taken_more c.args.auditor.now c.loop-entry.auditor c.take.new.self c.args.log i c.args.entries.now lt c.loop-entry.invariant h.stands one.session one.count one.others one.owners
