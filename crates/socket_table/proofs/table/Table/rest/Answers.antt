use Rattle.std.proofs.Common.{ap, sym, ◌∙◌, List, length, map}
use Rattle.socket_lines.specs.declared.seat.Seat.{Seat}
use Rattle.socket_lines.specs.Seats as S
use Rattle.socket_table.proofs.Opened.{all_seats}
use Rattle.socket_table.proofs.table.Table.rest.Goals as goal

pub invariant_of-self : goal.invariant_of-self
invariant_of-self c =
    (all_seats _ _ _ _ c.rest_all.new.seats c.self.inside.seats.len c.self.view_is c.self.invariant c.requires
    (c.rest_all.ensures ∙ ap (map S.rests) c.deref_mut.ensures.value) (sym c.deref_mut.ensures.len ∙ ap (λ (x : List Seat). length x) c.deref_mut.ensures.value)).0

pub returns : goal.returns
returns c =
    (all_seats _ _ _ _ c.rest_all.new.seats c.self.inside.seats.len c.self.view_is c.self.invariant c.requires
    (c.rest_all.ensures ∙ ap (map S.rests) c.deref_mut.ensures.value) (sym c.deref_mut.ensures.len ∙ ap (λ (x : List Seat). length x) c.deref_mut.ensures.value)).1
