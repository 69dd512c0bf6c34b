use Rattle.std.proofs.Common.{arith, refl}
use Rattle.socket_lines.specs.Seats as S
use Rattle.socket_table.proofs.Changed.{seat_changed}
use Rattle.socket_table.proofs.table.Table.reach_seat.Goals as goal

pub invariant_of-self : goal.invariant_of-self
invariant_of-self c =
    (seat_changed _ _ _ _ c.args.seat c.args.player (S.reaches c.args.want) c.index_mut.result.now c.reach.new.self c.self.view_is c.self.invariant c.requires c.index_mut.ensures.value c.reach.ensures (λ s. record { link = refl; spent = omega arith; dialled = refl }) (λ x g f. f)).0

pub returns : goal.returns
returns c =
    (seat_changed _ _ _ _ c.args.seat c.args.player (S.reaches c.args.want) c.index_mut.result.now c.reach.new.self c.self.view_is c.self.invariant c.requires c.index_mut.ensures.value c.reach.ensures (λ s. record { link = refl; spent = omega arith; dialled = refl }) (λ x g f. f)).1
