-- Pieces: what a reader of logs makes of one piece more.
use Rattle.std.proofs.Common.{◌≡◌, ℕ, List, [], ◌∷◌, ◌++◌, refl, sym, ap, ◌∙◌, append_assoc, append-nil}
use Rattle.std.proofs.lemmas.List.{flat_map_more}
use Rattle.definitions.specs.declared.logs.Entry.{Entry}
use Rattle.definitions.specs.World.{Game}
use Rattle.session_log.specs.Feeding.{LogFeeding, LogGiven, feed_at_start, given_of, given_over}
use Rattle.session_log.specs.Reading.{next_step, read_log}
use Rattle.session_log.proofs.Pieces.{log_pieces_same}
use Rattle.log_streams.specs.Streams.{entries_in, feeding_of, joined}

pub joined_more : (pieces : List (List ℕ)) (piece : List ℕ) → joined (pieces ++ piece ∷ []) ≡ joined pieces ++ piece
joined_more pieces piece = sym (flat_map_more (λ (p : List ℕ). p) [] pieces piece)

pub over_feeding : (game : Game) (f : LogFeeding) (pieces : List (List ℕ)) (piece : List ℕ) →
    (given_over game f (pieces ++ piece ∷ [])).feeding ≡ (given_of game (given_over game f pieces).feeding piece).feeding
over_feeding game f [] piece = refl
over_feeding game f (q ∷ qs) piece = over_feeding game (given_of game f q).feeding qs piece

pub over_entries : (game : Game) (f : LogFeeding) (pieces : List (List ℕ)) (piece : List ℕ) →
    (given_over game f (pieces ++ piece ∷ [])).entries ≡ (given_over game f pieces).entries ++ (given_of game (given_over game f pieces).feeding piece).entries
over_entries game f [] piece = append-nil (given_of game f piece).entries
over_entries game f (q ∷ qs) piece =
    let one : LogGiven = given_of game f q in
    let more : LogGiven = given_over game one.feeding qs in
    ap (λ (es : List Entry). one.entries ++ es) (over_entries game one.feeding qs piece) ∙ sym (append_assoc one.entries more.entries (given_of game more.feeding piece).entries)

-- the entries of all bytes are those that the pieces gave, and those that the last one gives
pub read_more : (game : Game) (pieces : List (List ℕ)) (piece : List ℕ) →
    entries_in game (joined (pieces ++ piece ∷ [])) ≡ (given_over game (feed_at_start game.id) pieces).entries ++ (given_of game (feeding_of game pieces) piece).entries
read_more game pieces piece =
    let all = log_pieces_same game (pieces ++ piece ∷ []) in
    sym all.entries ∙ over_entries game (feed_at_start game.id) pieces piece

pub nothing_read : (game : Game) → entries_in game [] ≡ []
unfolding read_log next_step
nothing_read game = refl
