-- The owner's tracks: where each is found, and that all of them stand on open cells.
use Rattle.std.proofs.Common.{◌≡◌, ℕ, zero, suc, ◌+◌, ◌≤◌, ◌<◌, List, [], ◌∷◌, ◌++◌, length, take, drop, refl, true, sym, ◌∙◌, ap, subst, arith, get_or, inl, inr}
use Rattle.std.specs.Prelude.{map}
use Rattle.std.proofs.lemmas.Bool.{and_parts, cases_lt}
use Rattle.std.proofs.lemmas.List.{take-append-drop, length-map, take-take}
use Rattle.definitions.specs.declared.world.Move.{Move}
use Rattle.definitions.specs.declared.world.Track.{Track}
use Rattle.definitions.specs.declared.logs.Entry.{Entry}
use Rattle.definitions.specs.World.{Game, players_of, is_open}
use Rattle.definitions.specs.Moves.{next_track, start_track, track_from, are_legal_from}
use Rattle.definitions.specs.Logs.{chosen}
use Rattle.definitions.specs.Held.{known, resolved_count, held_count}
use Rattle.definitions.specs.Meets.{cell_before}
use Rattle.definitions.specs.Honest.{IsHonest, chosen_track, made_count}
use Rattle.definition_laws.proofs.Tracks.{are_legal_from_append, moves_open}
use Rattle.definition_laws.proofs.OwnLog.{own_honest}
use Rattle.definition_laws.proofs.ForPeers.{own_moves, own_counts}
use Rattle.grid_world.specs.Sessions.{IsSession}
use Rattle.grid_world.proofs.Facts.{seat_open}
use Rattle.grid_world.proofs.Reveals.{ahead_least, reveals_are}
use Rattle.peer_core.specs.OwnTracks.{tracks_from, AreOwnTracks}
use Rattle.definitions.specs.Places.{reveal_place}
use Rattle.definition_laws.proofs.Order.{reveal_known}
use Rattle.grid_world.specs.Places.{reveals_below}

pub tracks-length : (game : Game) (track : Track) (ms : List Move) → length (tracks_from game track ms) ≡ length ms + 1
tracks-length game track [] = refl
tracks-length game track (m ∷ ms) = let ih = tracks-length game (next_track game track m) ms in omega arith

-- the track at a place is that after so many moves
pub tracks-at : (game : Game) (track : Track) (ms : List Move) (i : ℕ) (d : Track) → i ≤ length ms → get_or (tracks_from game track ms) i d ≡ track_from game track (take i ms)
tracks-at game track [] zero d h = refl
tracks-at game track [] (suc i) d h = absurd (omega arith)
tracks-at game track (m ∷ ms) zero d h = refl
tracks-at game track (m ∷ ms) (suc i) d h = tracks-at game (next_track game track m) ms i d (omega arith)

-- one move more
pub tracks-push : (game : Game) (track : Track) (ms : List Move) (m : Move) → tracks_from game track (ms ++ m ∷ []) ≡ tracks_from game track ms ++ next_track game (track_from game track ms) m ∷ []
tracks-push game track [] m = refl
tracks-push game track (k ∷ ms) m = ap (λ ts. track ∷ ts) (tracks-push game (next_track game track k) ms m)

own-moves-legal : (game : Game) (me : ℕ) (h : List Entry) → 1 ≤ game.ahead → IsHonest game me h →
    are_legal_from game me (start_track game me) (map (λ o. o.mv) (chosen me h)) ≡ true
own-moves-legal game me h d i = (own_honest game me h d i).legal

-- the first of legal moves are legal
legal-front : (game : Game) (q : ℕ) (track : Track) (ms : List Move) (i : ℕ) → are_legal_from game q track ms ≡ true → are_legal_from game q track (take i ms) ≡ true
legal-front game q track ms i h =
    let P : List Move → Type 0 = λ xs. are_legal_from game q track xs ≡ true in
    (and_parts (are_legal_from game q track (take i ms)) _ (sym (are_legal_from_append game q track (take i ms) (drop i ms)) ∙ subst P (sym (take-append-drop i ms)) h)).0

pub own_tracks_reach : (game : Game) (me t : ℕ) (h : List Entry) (tracks : List Track) → 1 ≤ game.ahead → IsHonest game me h → AreOwnTracks game me h tracks →
    t ≤ resolved_count game me h me → t < length tracks
own_tracks_reach game me t h tracks d i are le =
    let n = own_counts game me h d i in
    let before = n.before in
    let enough = n.enough in
    let l = tracks-length game (start_track game me) (map (λ o. o.mv) (chosen me h)) in
    let m = length-map (chosen me h) (λ o. o.mv) in
    let e = ap length are in
    omega arith

-- the owner's cell before a turn stands among its tracks
pub own_track_at : (game : Game) (me t : ℕ) (h : List Entry) (tracks : List Track) (d : Track) → 1 ≤ game.ahead → IsHonest game me h → AreOwnTracks game me h tracks →
    t ≤ resolved_count game me h me → (get_or tracks t d).at ≡ cell_before game me h me t
own_track_at game me t h tracks d a i are le =
    let n = own_counts game me h a i in
    let before = n.before in
    let enough = n.enough in
    let m = length-map (chosen me h) (λ o. o.mv) in
    let ms : List Move = map (λ o. o.mv) (chosen me h) in
    let front : take t (known game me h me).moves ≡ take t ms = ap (take t) (own_moves game me h a i) ∙ take-take t (resolved_count game me h me) ms le in
    ap (λ (ts : List Track). (get_or ts t d).at) are ∙ ap (λ (t : Track). t.at) (tracks-at game (start_track game me) ms t d (omega arith)) ∙
    ap (λ (xs : List Move). (track_from game (start_track game me) xs).at) (sym front)

-- and that cell is open
pub own_cell_open : (game : Game) (me t : ℕ) (h : List Entry) → 1 ≤ game.ahead → IsHonest game me h → is_open game.grid (start_track game me).at ≡ true →
    t ≤ resolved_count game me h me → is_open game.grid (cell_before game me h me t) ≡ true
own_cell_open game me t h a i o le =
    let ms : List Move = map (λ o. o.mv) (chosen me h) in
    let front : take t (known game me h me).moves ≡ take t ms = ap (take t) (own_moves game me h a i) ∙ take-take t (resolved_count game me h me) ms le in
    let P : List Move → Type 0 = λ xs. is_open game.grid (track_from game (start_track game me) xs).at ≡ true in
    subst P (sym front) (moves_open game me (start_track game me) (take t ms) o (legal-front game me (start_track game me) ms t (own-moves-legal game me h a i)))

-- where the owner stands after its choices is open
pub chosen_open : (game : Game) (me : ℕ) (h : List Entry) → IsSession game → me < players_of game → IsHonest game me h → is_open game.grid (chosen_track game me h).at ≡ true
chosen_open game me h is lt i =
    moves_open game me (start_track game me) (map (λ o. o.mv) (chosen me h)) (seat_open game me is lt) (own-moves-legal game me h (ahead_least game is) i)

-- the reveals below the owner's next place are those of its resolved turns
pub own_revealed : (game : Game) (me : ℕ) (h : List Entry) → 1 ≤ game.ahead → IsHonest game me h → resolved_count game me h me ≡ reveals_below game (made_count h)
own_revealed game me h d i =
    let w = own_counts game me h d i in
    let o = w.orderly in
    let few = o.turns in
    let sum = w.sum in
    sym (reveals_are game (made_count h) (resolved_count game me h me) few
    (λ t lt below. let at = (reveal_known game (held_count game me h me) (resolved_count game me h me) t d o lt).0 below in omega arith)
    (λ t lt past. elim (cases_lt (reveal_place game t) (held_count game me h me + resolved_count game me h me)) [
      | inl at ↦ let below = (reveal_known game (held_count game me h me) (resolved_count game me h me) t d o lt).1 at in absurd (omega arith)
      | inr at ↦ omega arith
    ]))
