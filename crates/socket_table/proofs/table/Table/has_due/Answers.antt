use Rattle.std.proofs.Common.{ap, sym, ◌∙◌}
use Rattle.std.specs.Prelude.{Option}
use Rattle.socket_lines.specs.Giving.{Desk}
use Rattle.loop_rules.specs.Licence.{has_due_at}
use Rattle.socket_table.proofs.Asked.{desk_none, desk_read}
use Rattle.socket_table.proofs.table.Table.has_due.Goals as goal

pub returns-in-None : goal.returns-in-None
returns-in-None c l g = sym (ap (λ (o : Option Desk). has_due_at c.args.made o) (desk_none c.args.self.now l c.desk_seat.result (c.desk_seat.ensures l g) c.in-None.is))

pub returns-in-Some : goal.returns-in-Some
returns-in-Some c l g =
    c.has_due.ensures ∙ sym (ap (λ (o : Option Desk). has_due_at c.args.made o)
    (desk_read _ _ c.args.place c.in-Some.seat c.index.result.now l c.index-in-Some.result.now c.desk_seat.result c.self.view_is c.index.ensures g c.index-in-Some.ensures (c.desk_seat.ensures l g) c.in-Some.is))
