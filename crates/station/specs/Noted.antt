-- How answers are noted.
use Rattle.std.specs.Prelude.{ℕ, Option, Some, None, List, [], ◌∷◌, map, flat_map}
use Rattle.record.specs.Note.{Note}
use Rattle.station.specs.Pieces.{Piece}

-- no number stands by bytes that were moved, and one by a fault
abbrev pub noted : List ℕ → List ℕ → Option (List ℕ)
noted [] bytes = Some bytes
noted (n ∷ ns) bytes = None

-- the bytes that were noted, in order
abbrev pub bytes_of : List Note → List ℕ
bytes_of notes = flat_map (λ note. note.bytes) notes

-- the place, and behind it a number where the call failed
abbrev pub piece_of : List ℕ → List ℕ → List ℕ → Piece
piece_of [] name bytes = record { name = name; at = 0; gave = None }
piece_of (at ∷ ns) name bytes = record { name = name; at = at; gave = noted ns bytes }

abbrev pub pieces_of : List Note → List Piece
pieces_of notes = map (λ note. piece_of note.numbers note.name note.bytes) notes
