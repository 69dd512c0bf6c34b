-- Calls: what the calls for the pieces of a log's file give, and what its bytes give by that.
use Rattle.std.proofs.Common.{◌≡◌, ℕ, List, [], ◌∷◌, ◌++◌, refl, sym, ◌∙◌, ap, subst, append_assoc, append-nil}
use Rattle.definitions.specs.World.{Game}
use Rattle.station.specs.Pieces.{Piece}
use Rattle.line_io.specs.Fronts.{bytes_given, bytes_read}
use Rattle.session_log.specs.Feeding.{LogGiven, feed_at_start, given_of, given_over}
use Rattle.session_log.specs.Laws.{IsReadOf}
use Rattle.session_log.proofs.Pieces.{log_pieces_same}
use Rattle.log_streams.specs.Streams.{entries_in, joined}
use Rattle.log_streams.proofs.Pieces.{joined_more, nothing_read, over_entries, over_feeding, read_more}

-- the bytes that each call gave
abbrev pub parts_of : List Piece → List (List ℕ)
parts_of [] = []
parts_of (p ∷ ps) = bytes_given p.gave ∷ parts_of ps

joined_parts : (ps : List Piece) → joined (parts_of ps) ≡ bytes_read ps
joined_parts [] = refl
joined_parts (p ∷ ps) = ap (λ (x : List ℕ). bytes_given p.gave ++ x) (joined_parts ps)

parts_more : (ps : List Piece) (p : Piece) → parts_of (ps ++ p ∷ []) ≡ parts_of ps ++ bytes_given p.gave ∷ []
parts_more [] p = refl
parts_more (q ∷ ps) p = ap (λ (x : List (List ℕ)). bytes_given q.gave ∷ x) (parts_more ps p)

-- one call more
pub bytes_more : (ps : List Piece) (p : Piece) → bytes_read (ps ++ p ∷ []) ≡ bytes_read ps ++ bytes_given p.gave
bytes_more [] p = append-nil (bytes_given p.gave)
bytes_more (q ∷ ps) p = ap (λ (x : List ℕ). bytes_given q.gave ++ x) (bytes_more ps p) ∙ sym (append_assoc (bytes_given q.gave) (bytes_read ps) (bytes_given p.gave))

-- what these calls gave of a log
abbrev pub given_by_calls : Game → List Piece → LogGiven
given_by_calls game ps = given_over game (feed_at_start game.id) (parts_of ps)

pub calls_feeding : (game : Game) (ps : List Piece) (p : Piece) → (given_by_calls game (ps ++ p ∷ [])).feeding ≡ (given_of game (given_by_calls game ps).feeding (bytes_given p.gave)).feeding
calls_feeding game ps p =
    ap (λ (xs : List (List ℕ)). (given_over game (feed_at_start game.id) xs).feeding) (parts_more ps p) ∙ over_feeding game (feed_at_start game.id) (parts_of ps) (bytes_given p.gave)

pub calls_entries : (game : Game) (ps : List Piece) (p : Piece) →
    (given_by_calls game (ps ++ p ∷ [])).entries ≡ (given_by_calls game ps).entries ++ (given_of game (given_by_calls game ps).feeding (bytes_given p.gave)).entries
calls_entries game ps p =
    ap (λ (xs : List (List ℕ)). (given_over game (feed_at_start game.id) xs).entries) (parts_more ps p) ∙ over_entries game (feed_at_start game.id) (parts_of ps) (bytes_given p.gave)

-- it is what a reader reads of their bytes
pub calls_read : (game : Game) (ps : List Piece) → IsReadOf game (bytes_read ps) (given_by_calls game ps)
calls_read game ps = subst (λ (bytes : List ℕ). IsReadOf game bytes (given_by_calls game ps)) (joined_parts ps) (log_pieces_same game (parts_of ps))

-- and the front of what bytes give that go on
pub entries_front : (game : Game) (ps : List Piece) (rest : List ℕ) →
    entries_in game (bytes_read ps ++ rest) ≡ (given_by_calls game ps).entries ++ (given_of game (given_by_calls game ps).feeding rest).entries
entries_front game ps rest =
    let bytes : joined (parts_of ps ++ rest ∷ []) ≡ bytes_read ps ++ rest = joined_more (parts_of ps) rest ∙ ap (λ (x : List ℕ). x ++ rest) (joined_parts ps) in
    ap (λ (x : List ℕ). entries_in game x) (sym bytes) ∙ read_more game (parts_of ps) rest

-- no bytes have no entries
pub entries_none : (game : Game) (bytes : List ℕ) → bytes ≡ [] → entries_in game bytes ≡ []
entries_none game bytes e = ap (λ (x : List ℕ). entries_in game x) e ∙ nothing_read game
