-- Fields: the bytes that begin at a place, and what is written over them.
use Rattle.std.specs.Prelude.{ℕ, ◌+◌, List, ◌++◌, length, take, drop, Option, Some, None, nat_lt, if◌then◌else◌}

-- the n bytes that begin at this place, if so many stand from it on
abbrev pub bytes_at : ℕ → List ℕ → ℕ → Option (List ℕ)
bytes_at n bytes at = if nat_lt (length (drop at bytes)) n then None else Some (take n (drop at bytes))

-- the bytes with a field written over those that begin at this place
abbrev pub overwritten : List ℕ → ℕ → List ℕ → List ℕ
overwritten out at field = take at out ++ (field ++ drop (at + length field) out)
