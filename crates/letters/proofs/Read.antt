-- Read: a letter's bytes are read as it.
use Rattle.std.proofs.Common.{◌≡◌, ℕ, ◌-◌, ◌<◌, Bool, refl, ap, ◌∙◌, List, [], ◌∷◌, ◌++◌, arith, length}
use Rattle.std.specs.Prelude.{Option, Some, None, drop, if◌then◌else◌}
use Rattle.std.proofs.lemmas.Bool.{eq-eqb}
use Rattle.std.proofs.Math.Seq.{drop-append_seam}
use Rattle.definitions.specs.declared.frames.TurnFrame.{TurnFrame}
use Rattle.definitions.specs.Logs.{player_of}
use Rattle.commitment.specs.Spelling.{frame_bytes, turn_frame_of}
use Rattle.commitment.proofs.Reading.{spelled_read, length-frame}
use Rattle.wire_frames.specs.declared.frames.Frame.TheVariants.{Hello}
use Rattle.wire_frames.specs.Fronts.{front_of}
use Rattle.wire_frames.specs.Reading.{at_start, fed_step, step_by}
use Rattle.wire_frames.specs.Spelling.{Fits, spelling}
use Rattle.wire_frames.proofs.Spelled.{spelling_front}
use Rattle.letters.specs.declared.letter.Letter.{Letter}
use Rattle.letters.specs.Reading.{with_frame, frame_behind, letter_by_step, letter_in}
use Rattle.letters.specs.Spelling.{frame_part}
use Rattle.letters.specs.Laws.{IsPart, LettersAreRead}

abbrev letter : List ℕ → ℕ → List ℕ → ℕ → Option TurnFrame → Letter
letter id p pass next o = record { id = id; player = p; pass = pass; next = next; frame = o }

-- the letter that bytes spell goes by what stands at their front
by_front : (bytes : List ℕ) → letter_in bytes ≡ letter_by_step (step_by at_start bytes (front_of bytes)) bytes
unfolding fed_step
by_front bytes = refl

-- bytes that are there are read as a frame
some_behind : (l : Letter) (bytes : List ℕ) → 0 < length bytes → frame_behind l bytes ≡ with_frame l (turn_frame_of bytes)
some_behind l [] h = absurd (omega (arith, h))
some_behind l (b ∷ bytes) h = refl

part_read : (id : List ℕ) (p : ℕ) (pass : List ℕ) (next : ℕ) (o : Option TurnFrame) → IsPart p o → frame_behind (letter id p pass next None) (frame_part o) ≡ Some (letter id p pass next o)
part_read id p pass next None i = refl
part_read id p pass next (Some f) i =
    let l = letter id p pass next None in
    let long = length-frame f i.1 in
    some_behind l (frame_bytes f) (omega (arith, long))
    ∙ ap (with_frame l) (spelled_read f i.1)
    ∙ ap (λ (b : Bool). if b then Some (record l { frame = Some f }) else None) (eq-eqb (player_of f) p i.0)

letter_read : (id : List ℕ) (p : ℕ) (pass : List ℕ) (next : ℕ) (o : Option TurnFrame) → Fits (Hello id p pass next) → IsPart p o → letter_in (spelling (Hello id p pass next) ++ frame_part o) ≡ Some (letter id p pass next o)
letter_read id p pass next o f i =
    let hello = spelling (Hello id p pass next) in
    let bytes = hello ++ frame_part o in
    let none : length hello - 0 ≡ length hello = omega arith in
    by_front bytes
    ∙ ap (λ r. letter_by_step (step_by at_start bytes r) bytes) (spelling_front (Hello id p pass next) (frame_part o) f)
    ∙ ap (λ (n : ℕ). frame_behind (letter id p pass next None) (drop n bytes)) none
    ∙ ap (frame_behind (letter id p pass next None)) (drop-append_seam hello (frame_part o))
    ∙ part_read id p pass next o i

pub letters_are_read : LettersAreRead
letters_are_read l i = letter_read l.id l.player l.pass l.next l.frame i.0 i.1
