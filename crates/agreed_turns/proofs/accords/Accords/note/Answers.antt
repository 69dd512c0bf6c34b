use Rattle.std.proofs.Common.{arith}
use Rattle.agreed_turns.proofs.Accorded.{counted_few, counted_one, counted_written, note_written, read_at}
use Rattle.agreed_turns.proofs.accords.Accords.note.Goals as goal

pub overflow_sub-self : goal.overflow_sub-self
overflow_sub-self c =
    let there = read_at c.self.inside.turns.items _ c.args.turn _ c.self.view_is c.requires c.index-old.ensures in
    let one = counted_one _ _ _ _ c.with_move-new.result c.self.invariant there in
    let is = c.one_in.ensures in
    omega arith

pub overflow_add-self : goal.overflow_add-self
overflow_add-self c =
    let there = read_at c.self.inside.turns.items _ c.args.turn _ c.self.view_is c.requires c.index-old.ensures in
    let few = counted_few _ _ _ _ c.with_move-new.result c.self.invariant there in
    let is = c.one_in.ensures in
    let other = c.one_in-2.ensures in
    omega arith

pub invariant_of-self : goal.invariant_of-self
invariant_of-self c =
    let there = read_at c.self.inside.turns.items _ c.args.turn _ c.self.view_is c.requires c.index-old.ensures in
    counted_written _ _ _ _ _ _ _ c.self.invariant there c.one_in.ensures c.one_in-2.ensures

pub returns : goal.returns
returns c =
    let there = read_at c.self.inside.turns.items _ c.args.turn _ c.self.view_is c.requires c.index-old.ensures in
    note_written c.self.inside.turns.items _ c.args.turn _ c.with_move-new.result c.args.mv c.self.view_is there c.with_move-new.ensures
