-- Streams: what comes from a player in lines is one stream.
use Rattle.std.proofs.Common.{Bool, List, [], ap, append-nil, append_assoc, arith, false, flat_map, length, refl, sym, true, ℕ, ◌+◌, ◌<◌, ◌++◌, ◌∙◌, ◌∷◌, ◌≡◌}
use Rattle.std.specs.Prelude.{get_or, if◌then◌else◌, ◌==◌}
use Rattle.std.proofs.lemmas.Bool.{eqb-false, eqb-true}
use Rattle.std.proofs.lemmas.Grind.{flat_map-append}
use Rattle.std.proofs.lemmas.List.{get_or-replicate, get_or-set_other, get_or-set_same, length-set}
use Rattle.definitions.specs.declared.logs.Entry.{Entry}
use Rattle.definitions.specs.World.{Game}
use Rattle.wire_frames.specs.declared.frames.Frame.{Frame}
use Rattle.wire_frames.specs.Reading.{Reading, at_start}
use Rattle.wire_frames.specs.Streams.{Given, Stream, end_of, given_of, given_over, seen_by, stream_of}
use Rattle.wire_frames.proofs.Pieces.{pieces_same}
use Rattle.drive_command.specs.declared.grammar.DriveLine.{DriveLine}
use Rattle.drive_command.specs.declared.grammar.DriveLine.TheVariants.{Nothing, Choose, Got, Bytes, Log, Score, Bad}
use Rattle.drive_command.specs.declared.readers.TheConstants.{READERS}
use Rattle.drive_command.specs.Driven.{State, fresh_state, reader_of, with_reader}
use Rattle.drive_command.specs.Coming.{bytes_state}
use Rattle.drive_command.specs.Drive.{said_behind, state_behind}
use Rattle.drive_command.specs.Laws.{GivesTheNext, bytes_of, piece_of, state_from}

-- the pieces that lines bring from the player
pieces : Game → (q n : ℕ) → List (List ℕ) → List (List ℕ)
pieces game q n [] = []
pieces game q n (line ∷ lines) = piece_of q (said_behind game n line) ++ pieces game q (n + 1) lines

-- and their bytes
abbrev joined : List (List ℕ) → List ℕ
joined ps = flat_map (λ (p : List ℕ). p) ps

bytes_joined : (game : Game) (q n : ℕ) (lines : List (List ℕ)) → bytes_of game q n lines ≡ joined (pieces game q n lines)
unfolding pieces
bytes_joined game q n [] = refl
bytes_joined game q n (line ∷ lines) =
    ap (λ (t : List ℕ). joined (piece_of q (said_behind game n line)) ++ t) (bytes_joined game q (n + 1) lines) ∙ sym (flat_map-append (λ (p : List ℕ). p) (piece_of q (said_behind game n line)) (pieces game q (n + 1) lines))

-- one more piece behind others
more_given : (r : Reading) (ps : List (List ℕ)) (bytes : List ℕ) → let g : Given = given_over r ps in let h : Given = given_of g.reader bytes in
    given_over r (ps ++ bytes ∷ []) ≡ record { frames = g.frames ++ h.frames; reader = h.reader }
more_given r [] bytes = ap (λ (fs : List Frame). record { frames = fs; reader = (given_of r bytes).reader }) (append-nil (given_of r bytes).frames)
more_given r (p ∷ ps) bytes =
    let g : Given = given_of r p in
    let ih = more_given g.reader ps bytes in
    let rest : Given = given_over g.reader ps in
    let last : Given = given_of rest.reader bytes in
    ap (λ (h : Given). record { frames = g.frames ++ h.frames; reader = h.reader }) ih ∙
    ap (λ (fs : List Frame). record { frames = fs; reader = last.reader }) (sym (append_assoc g.frames rest.frames last.frames))

-- the reader behind pieces that come behind others
reader_more : (r : Reading) (a b : List (List ℕ)) → (given_over r (a ++ b)).reader ≡ (given_over (given_over r a).reader b).reader
reader_more r [] b = refl
reader_more r (p ∷ a) b = reader_more (given_of r p).reader a b

-- the player's reader behind a line, and that there are still so many
line_reader : (game : Game) (me q : ℕ) (s : State) (d : DriveLine) → length s.readers ≡ READERS → q < READERS → reader_of (state_behind game me s d) q ≡ (given_over (reader_of s q) (piece_of q d)).reader
unfolding state_behind bytes_state
line_reader game me q s Nothing l k = refl
line_reader game me q s (Choose mv nonce) l k = refl
line_reader game me q s (Got p f) l k = refl
line_reader game me q s Log l k = refl
line_reader game me q s Score l k = refl
line_reader game me q s Bad l k = refl
line_reader game me q s (Bytes p bytes) l k = go (p == q) refl
  where
    r : Reading
    r = (given_of (reader_of s p) bytes).reader

    go : (b : Bool) → (p == q) ≡ b → get_or (with_reader s.readers p r) q at_start ≡ (given_over (reader_of s q) (if b then bytes ∷ [] else [])).reader
    go true e =
        let same : p ≡ q = eqb-true p q e in
        ap (λ (i : ℕ). get_or (with_reader s.readers p r) i at_start) (sym same) ∙ get_or-set_same s.readers p r at_start (omega (arith, same, l)) ∙ ap (λ (i : ℕ). (given_of (reader_of s i) bytes).reader) same
    go false e = get_or-set_other s.readers p q r at_start (λ same. eqb-false p q e (sym same))

line_count : (game : Game) (me : ℕ) (s : State) (d : DriveLine) → length (state_behind game me s d).readers ≡ length s.readers
unfolding state_behind bytes_state
line_count game me s Nothing = refl
line_count game me s (Choose mv nonce) = refl
line_count game me s (Got p f) = refl
line_count game me s (Bytes p bytes) = length-set s.readers p (given_of (reader_of s p) bytes).reader
line_count game me s Log = refl
line_count game me s Score = refl
line_count game me s Bad = refl

lines_reader : (game : Game) (me q : ℕ) (s : State) (n : ℕ) (lines : List (List ℕ)) → length s.readers ≡ READERS → q < READERS →
    reader_of (state_from game me s n lines) q ≡ (given_over (reader_of s q) (pieces game q n lines)).reader
unfolding pieces
lines_reader game me q s n [] l k = refl
lines_reader game me q s n (line ∷ lines) l k =
    let d = said_behind game n line in
    let next : State = state_behind game me s d in
    lines_reader game me q next (n + 1) lines (line_count game me s d ∙ l) k ∙
    ap (λ (r : Reading). (given_over r (pieces game q (n + 1) lines)).reader) (line_reader game me q s d l k) ∙
    sym (reader_more (reader_of s q) (piece_of q d) (pieces game q (n + 1) lines))

pub gives_next : (game : Game) (me : ℕ) (first : List Entry) (lines : List (List ℕ)) (q : ℕ) (bytes : List ℕ) → q < READERS → GivesTheNext game me first lines q bytes
gives_next game me first lines q bytes k =
    let s : State = state_from game me (fresh_state first) 0 lines in
    let ps = pieces game q 0 lines in
    let g : Given = given_over at_start ps in
    let start : reader_of (fresh_state first) q ≡ at_start = get_or-replicate READERS q at_start at_start k in
    let at : reader_of s q ≡ g.reader = lines_reader game me q (fresh_state first) 0 lines refl k ∙ ap (λ (r : Reading). (given_over r ps).reader) start in
    let before : stream_of (bytes_of game q 0 lines) ≡ seen_by g = ap stream_of (bytes_joined game q 0 lines) ∙ sym (pieces_same ps) in
    let all : bytes_of game q 0 lines ++ bytes ≡ joined (ps ++ bytes ∷ []) =
    ap (λ (t : List ℕ). t ++ bytes) (bytes_joined game q 0 lines) ∙ ap (λ (t : List ℕ). joined ps ++ t) (sym (append-nil bytes)) ∙ sym (flat_map-append (λ (p : List ℕ). p) ps (bytes ∷ [])) in
    let whole : stream_of (bytes_of game q 0 lines ++ bytes) ≡ seen_by (record { frames = g.frames ++ (given_of g.reader bytes).frames; reader = (given_of g.reader bytes).reader }) =
    ap stream_of all ∙ sym (pieces_same (ps ++ bytes ∷ [])) ∙ ap seen_by (more_given at_start ps bytes) in
    record {
      frames = ap (λ (t : Stream). t.frames) whole ∙ ap (λ (t : Stream). t.frames ++ (given_of g.reader bytes).frames) (sym before) ∙
          ap (λ (r : Reading). (stream_of (bytes_of game q 0 lines)).frames ++ (given_of r bytes).frames) (sym at);
      ends = ap (λ (t : Stream). t.ends) whole ∙ ap (λ (r : Reading). end_of (given_of r bytes).reader) (sym at);
    }
