use Rattle.std.proofs.Common.{ap, sym, ◌∙◌}
use Rattle.socket_lines.specs.declared.line.Line.{Line}
use Rattle.socket_table.proofs.Changed.{line_seen}
use Rattle.socket_table.proofs.Heard.{seen_at}
use Rattle.socket_table.proofs.Named.{seat_seen}
use Rattle.socket_table.proofs.Asked.{room_named}
use Rattle.socket_table.proofs.table.Table.room.Goals as goal

pub returns-in-Some-seat_index : goal.returns-in-Some-seat_index
returns-in-Some-seat_index c l g =
    let at = seen_at _ _ c.deref.result.now c.in-Some.player c.in-Some-seat_index.seat c.seat_index.result c.self.view_is c.deref.ensures.value c.seat_index.ensures c.in-Some-seat_index.is in
    let x = line_seen _ _ c.args.place c.index-line.result.now l c.self.view_is c.index-line.ensures g in
    c.room.ensures ∙ room_named c.args.self.now l c.in-Some.player c.index.result.now (ap (λ (m : Line). m.name) (sym x) ∙ c.in-Some.is)
    (seat_seen _ _ _ _ c.in-Some-seat_index.seat c.in-Some.player c.index.result.now c.self.view_is c.self.invariant at c.index.ensures)
