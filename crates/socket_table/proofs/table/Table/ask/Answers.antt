use Rattle.socket_lines.specs.Seats as S
use Rattle.socket_table.proofs.Heard.{seen_at, seen_none, no_seat}
use Rattle.socket_table.proofs.table.Table.ask.Goals as goal

pub returns-in-None : goal.returns-in-None
returns-in-None c =
    no_seat c.args.self.now c.args.player (S.asks c.args.next) (seen_none _ _ c.deref.result.now c.args.player c.seat_index.result c.self.view_is c.deref.ensures.value c.seat_index.ensures c.in-None.is)

pub ask_seat-requires-clause-seat : goal.ask_seat-requires-clause-seat
ask_seat-requires-clause-seat c = seen_at _ _ c.deref.result.now c.args.player c.in-Some.seat c.seat_index.result c.self.view_is c.deref.ensures.value c.seat_index.ensures c.in-Some.is
