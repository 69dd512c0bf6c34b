use Rattle.socket_lines.specs.Lines.{named_line}
use Rattle.loop_rules.proofs.Alike.{named_same}
use Rattle.socket_table.proofs.Changed.{line_changed, fit_named}
use Rattle.socket_table.proofs.table.Table.put_name.Goals as goal

pub invariant_of-self : goal.invariant_of-self
invariant_of-self c =
    (line_changed _ _ _ _ c.args.place c.args.socket (named_line c.args.player c.args.from c.args.next) c.index_mut.result.now c.take_name.new.self c.self.view_is c.self.invariant c.requires.at c.index_mut.ensures.value c.take_name.ensures
    (named_same c.args.player c.args.from c.args.next) (λ l g f. fit_named _ c.args.player c.args.from c.args.next l (c.requires.unnamed l g) f)).0

pub returns : goal.returns
returns c =
    (line_changed _ _ _ _ c.args.place c.args.socket (named_line c.args.player c.args.from c.args.next) c.index_mut.result.now c.take_name.new.self c.self.view_is c.self.invariant c.requires.at c.index_mut.ensures.value c.take_name.ensures
    (named_same c.args.player c.args.from c.args.next) (λ l g f. fit_named _ c.args.player c.args.from c.args.next l (c.requires.unnamed l g) f)).1
