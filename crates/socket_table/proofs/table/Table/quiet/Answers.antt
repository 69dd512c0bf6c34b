use Rattle.socket_lines.specs.Lines.{quieted}
use Rattle.loop_rules.proofs.Alike.{quieted_same}
use Rattle.socket_table.proofs.Changed.{line_changed}
use Rattle.socket_table.proofs.table.Table.quiet.Goals as goal

pub invariant_of-self : goal.invariant_of-self
invariant_of-self c =
    (line_changed _ _ _ _ c.args.place c.args.socket quieted c.index_mut.result.now c.quiet.new.self c.self.view_is c.self.invariant c.requires c.index_mut.ensures.value c.quiet.ensures quieted_same (λ l g f. record { taken = f.taken; read = f.read; sending = f.sending; dialled = f.dialled })).0

pub returns : goal.returns
returns c =
    (line_changed _ _ _ _ c.args.place c.args.socket quieted c.index_mut.result.now c.quiet.new.self c.self.view_is c.self.invariant c.requires c.index_mut.ensures.value c.quiet.ensures quieted_same (λ l g f. record { taken = f.taken; read = f.read; sending = f.sending; dialled = f.dialled })).1
