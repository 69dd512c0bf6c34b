use Rattle.std.proofs.Common.{arith, refl}
use Rattle.socket_lines.specs.Seats as S
use Rattle.socket_table.proofs.Changed.{seat_changed, seat_read, spent_few, fit_spends}
use Rattle.socket_table.proofs.table.Table.spend_seat.Goals as goal

pub spend-requires : goal.spend-requires
spend-requires c =
    let g = seat_read _ _ c.args.seat c.args.player c.index_mut.result.now c.self.view_is c.requires.seat c.index_mut.ensures.value in
    let few = spent_few _ _ _ _ c.args.seat c.index_mut.result.now c.self.view_is c.self.invariant g in
    let room = c.requires.room c.index_mut.result.now g in
    omega (arith, few, room)

pub invariant_of-self : goal.invariant_of-self
invariant_of-self c =
    (seat_changed _ _ _ _ c.args.seat c.args.player (S.spends c.args.count) c.index_mut.result.now c.spend.new.self c.self.view_is c.self.invariant c.requires.seat c.index_mut.ensures.value c.spend.ensures
    (λ s. record { link = refl; spent = omega arith; dialled = refl }) (λ x g f. fit_spends c.args.count x (c.requires.room x g) f)).0

pub returns : goal.returns
returns c =
    (seat_changed _ _ _ _ c.args.seat c.args.player (S.spends c.args.count) c.index_mut.result.now c.spend.new.self c.self.view_is c.self.invariant c.requires.seat c.index_mut.ensures.value c.spend.ensures
    (λ s. record { link = refl; spent = omega arith; dialled = refl }) (λ x g f. fit_spends c.args.count x (c.requires.room x g) f)).1
