use Rattle.std.proofs.Common.{arith, refl}
use Rattle.std.proofs.lemmas.Bool.{ltb-true}
use Rattle.socket_lines.specs.Seats as S
use Rattle.socket_table.proofs.Changed.{seat_changed, seat_read}
use Rattle.socket_table.proofs.table.Table.obey_seat.Goals as goal

pub obey-requires : goal.obey-requires
obey-requires c = ltb-true _ _ (c.requires.may c.index_mut.result.now (seat_read _ _ c.args.seat c.args.player c.index_mut.result.now c.self.view_is c.requires.seat c.index_mut.ensures.value))

pub invariant_of-self : goal.invariant_of-self
invariant_of-self c =
    (seat_changed _ _ _ _ c.args.seat c.args.player S.obeys c.index_mut.result.now c.obey.new.self c.self.view_is c.self.invariant c.requires.seat c.index_mut.ensures.value c.obey.ensures (λ s. record { link = refl; spent = omega arith; dialled = refl }) (λ x g f. f)).0

pub returns : goal.returns
returns c =
    (seat_changed _ _ _ _ c.args.seat c.args.player S.obeys c.index_mut.result.now c.obey.new.self c.self.view_is c.self.invariant c.requires.seat c.index_mut.ensures.value c.obey.ensures (λ s. record { link = refl; spent = omega arith; dialled = refl }) (λ x g f. f)).1
