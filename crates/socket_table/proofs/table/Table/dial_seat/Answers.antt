use Rattle.socket_table.proofs.Opened.{dial_changed, dial_room}
use Rattle.socket_table.proofs.table.Table.dial_seat.Goals as goal

pub invariant_of-self : goal.invariant_of-self
invariant_of-self c = (dial_changed _ _ _ _ c.args.seat c.args.player c.index_mut.result.now c.dial.new.self c.self.view_is c.self.invariant c.requires c.index_mut.ensures.value c.dial.ensures).0

pub returns-clause-seats : goal.returns-clause-seats
returns-clause-seats c = (dial_changed _ _ _ _ c.args.seat c.args.player c.index_mut.result.now c.dial.new.self c.self.view_is c.self.invariant c.requires c.index_mut.ensures.value c.dial.ensures).1

pub returns-clause-room : goal.returns-clause-room
returns-clause-room c x g e = dial_room _ _ _ _ c.args.seat c.args.player x c.index_mut.result.now c.dial.new.self c.self.view_is c.self.invariant c.requires c.index_mut.ensures.value c.dial.ensures g e
