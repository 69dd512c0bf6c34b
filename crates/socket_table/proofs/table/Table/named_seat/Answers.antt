use Rattle.std.proofs.Common.{ap, sym, ◌∙◌}
use Rattle.socket_lines.specs.declared.line.Line.{Line}
use Rattle.socket_table.proofs.Changed.{line_seen}
use Rattle.socket_table.proofs.Named.{seat_stands}
use Rattle.socket_table.proofs.Heard.{seen_at}
use Rattle.socket_table.proofs.Taken.{named_found}
use Rattle.socket_table.proofs.table.Table.named_seat.Goals as goal

pub returns-in-Some-seat_index : goal.returns-in-Some-seat_index
returns-in-Some-seat_index c l g =
    let at = seen_at _ _ c.deref.result.now c.in-Some.player c.in-Some-seat_index.seat c.seat_index.result c.self.view_is c.deref.ensures.value c.seat_index.ensures c.in-Some-seat_index.is in
    let x = line_seen _ _ c.args.place c.index.result.now l c.self.view_is c.index.ensures g in
    named_found c.args.self.now l.name c.in-Some-seat_index.seat c.in-Some.player at.0 (ap (λ (m : Line). m.name) (sym x) ∙ c.in-Some.is) at
    (seat_stands _ _ _ _ c.in-Some-seat_index.seat c.in-Some.player c.self.view_is c.self.invariant at) at.1
