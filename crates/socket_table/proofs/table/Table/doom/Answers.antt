use Rattle.socket_lines.specs.Lines.{doomed}
use Rattle.loop_rules.proofs.Alike.{doomed_same}
use Rattle.socket_table.proofs.Changed.{line_changed}
use Rattle.socket_table.proofs.table.Table.doom.Goals as goal

pub invariant_of-self : goal.invariant_of-self
invariant_of-self c =
    (line_changed _ _ _ _ c.args.place c.args.socket doomed c.index_mut.result.now c.doom.new.self c.self.view_is c.self.invariant c.requires c.index_mut.ensures.value c.doom.ensures doomed_same (λ l g f. record { taken = f.taken; read = f.read; sending = f.sending; dialled = f.dialled })).0

pub returns : goal.returns
returns c =
    (line_changed _ _ _ _ c.args.place c.args.socket doomed c.index_mut.result.now c.doom.new.self c.self.view_is c.self.invariant c.requires c.index_mut.ensures.value c.doom.ensures doomed_same (λ l g f. record { taken = f.taken; read = f.read; sending = f.sending; dialled = f.dialled })).1
