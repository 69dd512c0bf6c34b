use Rattle.std.proofs.Common.{ap, sym, ◌∙◌, List, map, length}
use Rattle.socket_lines.specs.declared.line.Line.{Line}
use Rattle.loop_rules.specs.Hearing.{ousted}
use Rattle.loop_rules.proofs.Alike.{ousted_same}
use Rattle.socket_table.proofs.Changed.{all_lines, fit_ousted}
use Rattle.socket_table.proofs.table.Table.free_name.Goals as goal

pub invariant_of-self : goal.invariant_of-self
invariant_of-self c =
    (all_lines _ _ _ _ (ousted c.args.player) c.oust_all.new.lines c.self.inside.lines.len c.self.view_is c.self.invariant (ousted_same c.args.player) (λ l f. fit_ousted _ c.args.player l f)
    (c.oust_all.ensures ∙ ap (map (ousted c.args.player)) c.deref_mut.ensures.value) (sym c.deref_mut.ensures.len ∙ ap (λ (x : List Line). length x) c.deref_mut.ensures.value)).0

pub returns : goal.returns
returns c =
    (all_lines _ _ _ _ (ousted c.args.player) c.oust_all.new.lines c.self.inside.lines.len c.self.view_is c.self.invariant (ousted_same c.args.player) (λ l f. fit_ousted _ c.args.player l f)
    (c.oust_all.ensures ∙ ap (map (ousted c.args.player)) c.deref_mut.ensures.value) (sym c.deref_mut.ensures.len ∙ ap (λ (x : List Line). length x) c.deref_mut.ensures.value)).1
