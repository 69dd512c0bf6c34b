use Rattle.socket_lines.specs.Lines.{moved_to}
use Rattle.loop_rules.proofs.Alike.{moved_same}
use Rattle.socket_table.proofs.Changed.{line_changed, fit_moved}
use Rattle.socket_table.proofs.table.Table.move_line.Goals as goal

pub invariant_of-self : goal.invariant_of-self
invariant_of-self c =
    (line_changed _ _ _ _ c.args.place c.args.socket (moved_to c.args.want) c.index_mut.result.now c.move_to.new.self c.self.view_is c.self.invariant c.requires c.index_mut.ensures.value c.move_to.ensures
    (moved_same c.args.want) (λ l g f. fit_moved _ c.args.want l f)).0

pub returns : goal.returns
returns c =
    (line_changed _ _ _ _ c.args.place c.args.socket (moved_to c.args.want) c.index_mut.result.now c.move_to.new.self c.self.view_is c.self.invariant c.requires c.index_mut.ensures.value c.move_to.ensures
    (moved_same c.args.want) (λ l g f. fit_moved _ c.args.want l f)).1
