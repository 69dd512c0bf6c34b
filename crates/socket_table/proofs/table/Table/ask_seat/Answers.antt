use Rattle.socket_lines.specs.Seats as S
use Rattle.socket_table.proofs.Changed.{seat_changed, asks_same, fit_asks}
use Rattle.socket_table.proofs.table.Table.ask_seat.Goals as goal

pub invariant_of-self : goal.invariant_of-self
invariant_of-self c = (seat_changed _ _ _ _ c.args.seat c.args.player (S.asks c.args.next) c.index_mut.result.now c.ask.new.self c.self.view_is c.self.invariant c.requires.seat c.index_mut.ensures.value c.ask.ensures (asks_same c.args.next) (λ x g f. fit_asks c.args.next x f)).0

pub returns : goal.returns
returns c = (seat_changed _ _ _ _ c.args.seat c.args.player (S.asks c.args.next) c.index_mut.result.now c.ask.new.self c.self.view_is c.self.invariant c.requires.seat c.index_mut.ensures.value c.ask.ensures (asks_same c.args.next) (λ x g f. fit_asks c.args.next x f)).1
