use Rattle.std.proofs.Common.{sym, subst}
use Rattle.std.specs.Prelude.{Some}
use Rattle.loop_rules.specs.Tables.{Table, seat_of}
use Rattle.socket_table.specs.Finding.{IsSeatAt}
use Rattle.socket_table.proofs.Heard.{obeyed_seat, want_of_none, seen_at, seen_none}
use Rattle.socket_table.proofs.table.Table.hear_want.Goals as goal

pub obey-requires-clause-seat : goal.obey-requires-clause-seat
obey-requires-clause-seat c = seen_at _ _ c.deref.result.now c.args.player c.in-Some.seat c.seat_index.result c.self.view_is c.deref.ensures.value c.seat_index.ensures c.in-Some.is

pub reach_seat-requires : goal.reach_seat-requires
reach_seat-requires c =
    let at = seen_at _ _ c.deref.result.now c.args.player c.in-Some.seat c.seat_index.result c.self.view_is c.deref.ensures.value c.seat_index.ensures c.in-Some.is in
    subst (λ (t : Table). IsSeatAt t.seats c.args.player (Some c.in-Some.seat)) (sym c.obey.ensures)
    (obeyed_seat c.args.self.now c.args.socket c.args.player c.args.want c.in-Some.seat (seat_of c.args.self.now c.args.player) at)

pub returns-in-None : goal.returns-in-None
returns-in-None c =
    want_of_none c.args.self.now c.args.socket c.args.player c.args.want
    (seen_none _ _ c.deref.result.now c.args.player c.seat_index.result c.self.view_is c.deref.ensures.value c.seat_index.ensures c.in-None.is)
