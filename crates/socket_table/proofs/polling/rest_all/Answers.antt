use Rattle.std.proofs.Common.{get_or, ◌≡◌, ◌<◌, ◌+◌, ◌++◌, ℕ, List, ap, ◌∙◌, slice_set, length, map, take, drop, arith}
use Rattle.std.proofs.lemmas.List.{get_or_default}
use Rattle.std.proofs.lemmas.List.Edits.{map_over_more}
use Rattle.socket_lines.specs.declared.seat.Seat.{Seat}
use Rattle.socket_lines.specs.Seats as S
use Rattle.socket_table.proofs.polling.rest_all.Goals as goal

one-more : (f : Seat → Seat) (xs ys : List Seat) (i : ℕ) (d y : Seat) → i < length xs → length ys ≡ length xs → ys ≡ map f (take i xs) ++ drop i xs
    → y ≡ f (get_or ys i d) → slice_set ys i y ≡ map f (take (i + 1) xs) ++ drop (i + 1) xs
one-more f xs ys i d y h n inv e =
    ap (slice_set ys i) e ∙ map_over_more f xs ys i (get_or ys i d) h inv (get_or_default ys i d (get_or ys i d) (omega arith))

pub loop-seat-preserved : goal.loop-seat-preserved
loop-seat-preserved c =
    one-more S.rests _ c.loop-seat.seats c.loop-seat.seat-index _ _ c.loop-seat-test.true c.loop-seat.auto.seats c.loop-seat.invariant c.rest.ensures
