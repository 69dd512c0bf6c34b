use Rattle.std.proofs.Common.{ap, arith, length, List}
use Rattle.socket_lines.specs.declared.line.Line.{Line}
use Rattle.socket_table.proofs.Staying.{few_stay, sound_stays}
use Rattle.socket_table.proofs.table.Table.go_on.Goals as goal

pub invariant_of-self : goal.invariant_of-self
invariant_of-self c = sound_stays _ _ _ _ c.drop_closed.new.lines.items c.self.invariant c.drop_closed.ensures.items c.drop_closed.ensures.capacity

pub returns-clause-few : goal.returns-clause-few
returns-clause-few c =
    let few = few_stay _ _ _ _ c.self.view_is c.self.invariant c.requires in
    let same = ap (λ (x : List Line). length x) c.drop_closed.ensures.items in
    omega (arith, few, same)
