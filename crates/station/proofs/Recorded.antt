-- A record has a note more.
use Rattle.std.proofs.Common.{◌≡◌, ℕ, List, [], ◌∷◌, ◌++◌, ap, sym, ◌∙◌, append_assoc, append-nil}
use Rattle.record.specs.Note.{Note}
use Rattle.station.specs.Noted.{bytes_of}

bytes_after : (notes : List Note) (note : Note) → bytes_of (notes ++ note ∷ []) ≡ bytes_of notes ++ note.bytes
bytes_after [] note = append-nil note.bytes
bytes_after (n ∷ ns) note = ap (λ (x : List ℕ). n.bytes ++ x) (bytes_after ns note) ∙ sym (append_assoc n.bytes (bytes_of ns) note.bytes)

pub bytes_more : (before now : List Note) (note : Note) → now ≡ before ++ note ∷ [] → bytes_of now ≡ bytes_of before ++ note.bytes
bytes_more before now note e = ap bytes_of e ∙ bytes_after before note
