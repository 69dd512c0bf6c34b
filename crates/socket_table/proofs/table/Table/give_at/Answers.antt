use Rattle.std.proofs.Common.{refl, ap, ◌∙◌}
use Rattle.std.specs.Prelude.{Some}
use Rattle.loop_rules.specs.Rules.{due_at}
use Rattle.socket_table.proofs.Asked.{desk_read}
use Rattle.socket_table.proofs.Written.{written}
use Rattle.socket_table.proofs.table.Table.give_at.Goals as goal

pub invariant_of-self : goal.invariant_of-self
invariant_of-self c =
    let due = c.requires.due c.requires.at.0 c.requires.at.1 in
    (written _ _ _ _ c.args.place c.args.seat due.0 c.args.own c.args.count c.index_mut-line.result.now c.requires.at.0 c.index_mut.result.now c.give.new.line c.give.new.seat (Some c.args.seat) c.self.view_is c.self.invariant c.index_mut-line.ensures.value c.requires.at.1 c.index_mut.ensures.value
    (c.requires.seat c.requires.at.0 c.requires.at.1) refl (λ f q. c.requires.own c.requires.at.0 f c.requires.at.1 q)
    (c.give.ensures due.0 (due.1 ∙ ap (due_at due.0 c.args.own)
    (desk_read _ _ c.args.place c.args.seat c.index_mut-line.result.now c.requires.at.0 c.index_mut.result.now (Some c.args.seat) c.self.view_is c.index_mut-line.ensures.value c.requires.at.1 c.index_mut.ensures.value (c.requires.seat c.requires.at.0 c.requires.at.1) refl)))).0

pub returns : goal.returns
returns c l s g due =
    (written _ _ _ _ c.args.place c.args.seat s c.args.own c.args.count c.index_mut-line.result.now l c.index_mut.result.now c.give.new.line c.give.new.seat (Some c.args.seat) c.self.view_is c.self.invariant c.index_mut-line.ensures.value g c.index_mut.ensures.value
    (c.requires.seat l g) refl (λ f q. c.requires.own l f g q)
    (c.give.ensures s (due ∙ ap (due_at s c.args.own)
    (desk_read _ _ c.args.place c.args.seat c.index_mut-line.result.now l c.index_mut.result.now (Some c.args.seat) c.self.view_is c.index_mut-line.ensures.value g c.index_mut.ensures.value (c.requires.seat l g) refl)))).1
