use Rattle.std.proofs.Common.{◌≡◌, ap, sym, subst, ◌∙◌, arith, length, true, false, ◌++◌, ◌∷◌, []}
use Rattle.std.proofs.lemmas.Bool.{false≢true}
use Rattle.socket_lines.specs.declared.line.Line.{Line}
use Rattle.loop_rules.specs.Tables.{Table}
use Rattle.loop_rules.specs.Told.{IsNotIn}
use Rattle.socket_table.proofs.Opened.{sound_open}
use Rattle.socket_table.proofs.table.Table.open.Goals as goal

pub invariant_of-self : goal.invariant_of-self
invariant_of-self c =
    sound_open _ _ _ _ c.args.socket false _ c.add.new.list.items c.self.invariant c.add.ensures.capacity
    (subst (λ (t : Table). IsNotIn c.args.socket t.lines) (sym c.self.view_is) c.requires.new)
    (let few = c.requires.few in let same = ap (λ (t : Table). length t.lines) c.self.view_is in omega (arith, few, same))
    (c.add.ensures.items ∙ ap (λ (l : Line). c.self.inside.lines.items ++ l ∷ []) c.accepted.ensures)
    (omega arith) (let lt = c.if-self-lt-MOST_ACCEPTED.true in omega (arith, lt)) (λ e. omega arith)

pub invariant_of-self-else-self-lt-MOST_ACCEPTED : goal.invariant_of-self-else-self-lt-MOST_ACCEPTED
invariant_of-self-else-self-lt-MOST_ACCEPTED c =
    sound_open _ _ _ _ c.args.socket true _ c.add-else-self-lt-MOST_ACCEPTED.new.list.items c.self.invariant c.add-else-self-lt-MOST_ACCEPTED.ensures.capacity
    (subst (λ (t : Table). IsNotIn c.args.socket t.lines) (sym c.self.view_is) c.requires.new)
    (let few = c.requires.few in let same = ap (λ (t : Table). length t.lines) c.self.view_is in omega (arith, few, same))
    (c.add-else-self-lt-MOST_ACCEPTED.ensures.items ∙ ap (λ (l : Line). c.self.inside.lines.items ++ l ∷ []) c.accepted-else-self-lt-MOST_ACCEPTED.ensures)
    (omega arith) c.self.invariant.room.accepted (λ e. (let x : true ≡ false = e in absurd (false≢true (sym x))))
