use Rattle.std.proofs.Common.{sym, subst, ◌∙◌, ℕ}
use Rattle.std.specs.Prelude.{Option, Some, List}
use Rattle.socket_lines.specs.declared.seat.Seat.{Seat}
use Rattle.socket_table.specs.Finding.{IsSeatAt}
use Rattle.socket_table.proofs.Named.{names_by, is_naming}
use Rattle.socket_table.proofs.table.Table.naming_seat.Goals as goal

pub returns-then-lets_name : goal.returns-then-lets_name
returns-then-lets_name c l h g e =
    let at = subst (λ (cs : List Seat). IsSeatAt cs c.args.player (Some c.in-Some.seat)) c.deref.ensures.value (subst (λ (o : Option ℕ). IsSeatAt c.deref.result.now c.args.player o) c.in-Some.is c.seat_index.ensures) in
    is_naming _ _ _ _ c.in-Some.seat c.args.place c.args.player h c.args.id.now c.args.session.now c.args.pass.now l c.index.result.now c.index-in-Some.result.now c.self.view_is c.self.invariant at c.index-in-Some.ensures g c.index.ensures e
    (sym c.lets_name.ensures ∙ c.if-lets_name.true)

pub returns-else-lets_name : goal.returns-else-lets_name
returns-else-lets_name c l h g e =
    let at = subst (λ (cs : List Seat). IsSeatAt cs c.args.player (Some c.in-Some.seat)) c.deref.ensures.value (subst (λ (o : Option ℕ). IsSeatAt c.deref.result.now c.args.player o) c.in-Some.is c.seat_index.ensures) in
    names_by _ _ _ _ c.in-Some.seat c.args.place c.args.player h c.args.id.now c.args.session.now c.args.pass.now l c.index.result.now c.index-in-Some.result.now c.self.view_is c.self.invariant at c.index-in-Some.ensures g c.index.ensures e
    ∙ sym c.lets_name.ensures ∙ c.if-lets_name.false
