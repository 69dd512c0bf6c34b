use Rattle.socket_table.proofs.New.{sound_new}
use Rattle.socket_table.proofs.table.Table.new.Goals as goal

pub invariant_of-result : goal.invariant_of-result
invariant_of-result c =
    sound_new c.args.links.now c.args.most _ _ c.in_ok-lines.lines.items c.in_ok-seats.seats.items c.in_ok-waiting.waiting.items c.requires c.in_ok-lines.ensures.items c.in_ok-seats.ensures c.in_ok-waiting.ensures.items
    c.in_ok-lines.ensures.capacity c.in_ok-waiting.ensures.capacity
