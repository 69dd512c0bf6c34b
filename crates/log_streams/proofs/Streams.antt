-- Streams: what one piece more makes of a log, and that nothing follows the byte that closed a
-- player.
use Rattle.std.proofs.Common.{◌≡◌, ℕ, ◌+◌, List, [], ◌∷◌, ◌++◌, length, sym, ap, ◌∙◌, append_assoc, append-nil, length-append}
use Rattle.std.specs.Prelude.{Option, Some, Err, drop}
use Rattle.plain_lemmas.proofs.Options.{some_of}
use Rattle.definitions.specs.declared.logs.Entry.{Entry}
use Rattle.definitions.specs.World.{Game}
use Rattle.session_log.specs.declared.faults.LogFault.{LogFault}
use Rattle.session_log.specs.Feeding.{LogFeeding, LogGiven, fed_by_owner, fed_step, fed_unless, feed_at_start, given_by, given_of, given_on}
use Rattle.session_log.specs.Laws.{owner_in}
use Rattle.session_log.specs.Reading.{Answer}
use Rattle.session_log.proofs.Pieces.{log_pieces_same}
use Rattle.log_streams.specs.Streams.{Stream, bytes_of, count_of, entries_in, entries_of, feeding_of, gone_on, joined, owner_of}
use Rattle.log_streams.specs.Laws.{LaterBytesGiveNothing}
use Rattle.log_streams.proofs.Pieces.{joined_more, over_feeding, read_more}

pub feeding_more : (game : Game) (pieces : List (List ℕ)) (piece : List ℕ) → feeding_of game (pieces ++ piece ∷ []) ≡ (given_of game (feeding_of game pieces) piece).feeding
feeding_more game pieces piece = over_feeding game (feed_at_start game.id) pieces piece

pub entries_more : (game : Game) (s : Stream) (piece : List ℕ) → entries_of game (gone_on game (s.pieces ++ piece ∷ [])) ≡ entries_of game s ++ (given_of game (feeding_of game s.pieces) piece).entries
entries_more game s piece =
    let old = log_pieces_same game s.pieces in
    read_more game s.pieces piece ∙ ap (λ (es : List Entry). es ++ (given_of game (feeding_of game s.pieces) piece).entries) old.entries

pub owner_is : (game : Game) (s : Stream) → (feeding_of game s.pieces).owner ≡ owner_of game s
owner_is game s = (log_pieces_same game s.pieces).owner

pub count_more : (game : Game) (s : Stream) (piece : List ℕ) → count_of (gone_on game (s.pieces ++ piece ∷ [])) ≡ count_of s + length piece
count_more game s piece = ap (λ (x : List ℕ). length x) (joined_more s.pieces piece) ∙ length-append (bytes_of s) piece

-- ---- the byte that closed a player

given_none : (x : LogFault) (w : Answer) (f : LogFeeding) (left : LogGiven) → w ≡ Err x → ((given_on w f left).entries ≡ []) × ((given_on w f left).feeding ≡ f)
given_none x w f left e = (ap (λ (u : Answer). (given_on u f left).entries) e, ap (λ (u : Answer). (given_on u f left).feeding) e)

fault_stays : (game : Game) (f : LogFeeding) (bytes : List ℕ) (x : LogFault) → f.fault ≡ Some x → ((fed_step game f bytes).fed.what ≡ Err x) × ((fed_step game f bytes).feeding ≡ f)
unfolding fed_step
fault_stays game f bytes x e =
    (ap (λ (o : Option LogFault). (fed_unless o f (fed_by_owner game f.owner f bytes)).fed.what) e, ap (λ (o : Option LogFault). (fed_unless o f (fed_by_owner game f.owner f bytes)).feeding) e)

-- a reader that met a fault gives no entry more, and stays as it is
faulty_gives : (game : Game) (f : LogFeeding) (bytes : List ℕ) (x : LogFault) → f.fault ≡ Some x → ((given_of game f bytes).entries ≡ []) × ((given_of game f bytes).feeding ≡ f)
faulty_gives game f bytes x e =
    let s = fault_stays game f bytes x e in
    let left : LogGiven = given_by game (length bytes) (fed_step game f bytes).feeding (drop (fed_step game f bytes).fed.used bytes) in
    let g = given_none x (fed_step game f bytes).fed.what (fed_step game f bytes).feeding left s.0 in
    (g.0, g.1 ∙ s.1)

pub later_bytes_give_nothing : LaterBytesGiveNothing
later_bytes_give_nothing game pieces front rest closed =
    let ps : List (List ℕ) = pieces ++ front ∷ [] in
    let x = some_of (feeding_of game ps).fault closed in
    let g = faulty_gives game (feeding_of game ps) rest x.0 x.1 in
    let same : joined (pieces ++ (front ++ rest) ∷ []) ≡ joined (ps ++ rest ∷ []) =
    joined_more pieces (front ++ rest) ∙ sym (append_assoc (joined pieces) front rest)
    ∙ ap (λ (b : List ℕ). b ++ rest) (sym (joined_more pieces front)) ∙ sym (joined_more ps rest) in (
      ap (λ (b : List ℕ). entries_in game b) same ∙ entries_more game (gone_on game ps) rest ∙ ap (λ (es : List Entry). entries_of game (gone_on game ps) ++ es) g.0 ∙ append-nil (entries_of game (gone_on game ps)),
      ap (λ (b : List ℕ). owner_in game b) same ∙ sym (owner_is game (gone_on game (ps ++ rest ∷ []))) ∙ ap (λ (f : LogFeeding). f.owner) (feeding_more game ps rest ∙ g.1) ∙ owner_is game (gone_on game ps),
    )
