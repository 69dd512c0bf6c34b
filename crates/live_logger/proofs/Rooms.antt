-- Rooms: what is asked of a logger before it hears.
use Rattle.std.proofs.Common.{◌≡◌, ℕ, zero, suc, ◌<◌, ◌≤◌, sym, ap, List, [], ◌∷◌, arith, length}
use Rattle.std.specs.Prelude.{slice_get}
use Rattle.std.proofs.lemmas.Option.{slice_get_past}
use Rattle.log_streams.specs.Streams.{Stream, room_at}

pub no_room : (ss : List Stream) (q n : ℕ) → length ss ≡ n → n ≤ q → 0 ≡ room_at (slice_get ss q)
no_room ss q n e le = sym (ap room_at (slice_get_past ss q (omega (arith, e, le))))

-- one of whom more may be taken is a player
room_lt : (count : ℕ) (ss : List Stream) (q : ℕ) → 0 < count → count ≤ room_at (slice_get ss q) → q < length ss
room_lt count [] q some few = absurd (omega (arith, some, few))
room_lt count (s ∷ ss) zero some few = omega arith
room_lt count (s ∷ ss) (suc q) some few = let r = room_lt count ss q some few in omega (arith, r)

pub has_room : (ss : List Stream) (q n count : ℕ) → length ss ≡ n → 0 < count → count ≤ room_at (slice_get ss q) → q < n
has_room ss q n count e some few = let lt = room_lt count ss q some few in omega (arith, lt, e)
