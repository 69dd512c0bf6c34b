-- Strikes: who is hit was near enough to meet.
use Rattle.std.proofs.Common.{List, None, Some, [], arith, inl, inr, subst, sym, suc, true, zero, ℕ, ap, ◌*◌, ◌+◌, ◌-◌, ◌∙◌, ◌∷◌, ◌≡◌, ◌≤◌, ◌<◌, ◌⊎◌, slice_get, take}
use Rattle.std.specs.Prelude.{Option}
use Rattle.std.proofs.lemmas.Bool.{and_parts}
use Rattle.std.proofs.lemmas.List.{take-take}
use Rattle.std.proofs.lemmas.Option.{same_Some}
use Rattle.definitions.specs.declared.world.Cell.{Cell}
use Rattle.definitions.specs.declared.world.Move.{Move}
use Rattle.definitions.specs.declared.world.Track.{Track}
use Rattle.definitions.specs.declared.logs.Entry.{Entry}
use Rattle.definitions.specs.World.{Game, distance, is_inside, seat_of}
use Rattle.definitions.specs.Walk.{Walk}
use Rattle.definitions.specs.Moves.{are_legal_from, is_legal, next_track, start_track, track_after, track_from}
use Rattle.definitions.specs.Held.{resolved_count}
use Rattle.definitions.specs.Meets.{cell_before, meets}
use Rattle.definition_laws.specs.Distances.{IsLegalMove, IsLegalStrike, IsMeeting, last_cell}
use Rattle.definition_laws.specs.Strikes.{GoesOn, Strikes}
use Rattle.definition_laws.proofs.Distances.{meeting_is_meets, walk_on}
use Rattle.definition_laws.proofs.LegalMoves.{legal_is_walk}

-- each of legal moves is legal from the track that those before it give
pub legal_at : (game : Game) (q : ℕ) (track : Track) (ms : List Move) (t : ℕ) (m : Move) → are_legal_from game q track ms ≡ true → slice_get ms t ≡ Some m →
    is_legal game q (track_from game track (take t ms)) m ≡ true
legal_at game q track [] t m legal there = cc
legal_at game q track (x ∷ ms) zero m legal there =
    subst (λ (k : Move). is_legal game q track k ≡ true) (same_Some x m there) (and_parts _ _ legal).0
legal_at game q track (x ∷ ms) (suc t) m legal there = legal_at game q (next_track game track x) ms t m (and_parts _ _ legal).1 there

-- a walk of as many turns leads from the track to where the last of these moves ends
walk_to : (game : Game) (q : ℕ) (track : Track) (ms : List Move) (n : ℕ) (m : Move) → are_legal_from game q track ms ≡ true → slice_get ms n ≡ Some m →
    Walk game.grid (n * (seat_of game q).speed + (seat_of game q).speed) track.at m.to
walk_to game q track [] n m legal there = cc
walk_to game q track (x ∷ ms) zero m legal there =
    let one : IsLegalMove game q track x = legal_is_walk game q track x (and_parts _ _ legal).0 in
    let P : ℕ → Type 0 = λ j. Walk game.grid j track.at m.to in
    let e : (seat_of game q).speed ≡ 0 * (seat_of game q).speed + (seat_of game q).speed = omega arith in
    subst P e (subst (λ (k : Move). Walk game.grid (seat_of game q).speed track.at k.to) (same_Some x m there) one.walk)
walk_to game q track (x ∷ ms) (suc n) m legal there =
    let one : IsLegalMove game q track x = legal_is_walk game q track x (and_parts _ _ legal).0 in
    let rest : Walk game.grid (n * (seat_of game q).speed + (seat_of game q).speed) x.to m.to = walk_to game q (next_track game track x) ms n m (and_parts _ _ legal).1 there in
    let P : ℕ → Type 0 = λ j. Walk game.grid j track.at m.to in
    let e : (n * (seat_of game q).speed + (seat_of game q).speed) + (seat_of game q).speed ≡ suc n * (seat_of game q).speed + (seat_of game q).speed = omega arith in
    subst P e (walk_on game.grid (seat_of game q).speed (n * (seat_of game q).speed + (seat_of game q).speed) track.at x.to m.to one.walk rest)

-- the same from where the first u moves lead
pub walk_from : (game : Game) (q : ℕ) (track : Track) (ms : List Move) (u t : ℕ) (m : Move) → u ≤ t → are_legal_from game q track ms ≡ true → slice_get ms t ≡ Some m →
    Walk game.grid ((t - u) * (seat_of game q).speed + (seat_of game q).speed) (track_from game track (take u ms)).at m.to
walk_from game q track ms zero t m le legal there =
    let P : ℕ → Type 0 = λ n. Walk game.grid (n * (seat_of game q).speed + (seat_of game q).speed) track.at m.to in
    let e : t ≡ t - 0 = omega arith in
    subst P e (walk_to game q track ms t m legal there)
walk_from game q track [] (suc u) t m le legal there = cc
walk_from game q track (x ∷ ms) (suc u) zero m le legal there = absurd (omega arith)
walk_from game q track (x ∷ ms) (suc u) (suc t) m le legal there =
    let P : ℕ → Type 0 = λ n. Walk game.grid (n * (seat_of game q).speed + (seat_of game q).speed) (track_from game track (take (suc u) (x ∷ ms))).at m.to in
    let e : t - u ≡ suc t - suc u = omega arith in
    subst P e (walk_from game q (next_track game track x) ms u t m (omega arith) (and_parts _ _ legal).1 there)

-- a cell that player a, who ends a turn at `to`, strikes and hits player b at `at` by is one that both reach and blast
pub record IsStruck (game : Game) (a b : ℕ) (to at : Cell) : Type 0 where
  pub cell : Cell
  pub inside : is_inside game.grid cell ≡ true
  pub near : distance to cell ≤ (seat_of game a).reach + game.rules.blast
  pub hit : distance at cell ≤ (seat_of game b).reach + game.rules.blast

strike_near : (game : Game) (a b : ℕ) (track : Track) (to at : Cell) (s : Option Cell) → IsLegalStrike game a track to s → Strikes game s at → IsStruck game a b to at
strike_near game a b track to at None legal hit = absurd hit
strike_near game a b track to at (Some c) legal hit = record {
  cell = c;
  inside = legal.0;
  near = omega (arith, legal.1);
  hit = omega (arith, hit);
}

-- who is hit, or hits, meets the owner
pub who_is_hit_meets : (game : Game) (me q t : ℕ) (h : List Entry) (own others : List Move) (mv other : Move) → t < resolved_count game me h me → resolved_count game me h q ≤ t →
    GoesOn game me h me own → GoesOn game me h q others → slice_get own t ≡ Some mv → slice_get others t ≡ Some other →
    Strikes game mv.strike other.to ⊎ Strikes game other.strike mv.to → meets game me h q t ≡ true
who_is_hit_meets game me q t h own others mv other revealed unresolved ours theirs there other_there hit = meeting_is_meets game me q t h (go hit)
  where
    legal : IsLegalMove game me (track_after game me (take t own)) mv
    legal = legal_is_walk game me _ mv (legal_at game me (start_track game me) own t mv ours.legal there)

    other_legal : IsLegalMove game q (track_after game q (take t others)) other
    other_legal = legal_is_walk game q _ other (legal_at game q (start_track game q) others t other theirs.legal other_there)

    here : (track_after game me (take t own)).at ≡ cell_before game me h me t
    here =
        let le : t ≤ resolved_count game me h me = omega arith in
        ap (λ (ms : List Move). (track_after game me ms).at) (sym (take-take t (resolved_count game me h me) own le) ∙ ap (take t) ours.begins)

    last : (track_after game q (take (resolved_count game me h q) others)).at ≡ last_cell game me h q
    last = ap (λ (ms : List Move). (track_after game q ms).at) theirs.begins

    own_walk : Walk game.grid (seat_of game me).speed (cell_before game me h me t) mv.to
    own_walk = subst (λ (c : Cell). Walk game.grid (seat_of game me).speed c mv.to) here legal.walk

    other_walk : Walk game.grid ((t - resolved_count game me h q) * (seat_of game q).speed + (seat_of game q).speed) (last_cell game me h q) other.to
    other_walk =
        subst (λ (c : Cell). Walk game.grid ((t - resolved_count game me h q) * (seat_of game q).speed + (seat_of game q).speed) c other.to) last
        (walk_from game q (start_track game q) others (resolved_count game me h q) t other unresolved theirs.legal other_there)

    go : Strikes game mv.strike other.to ⊎ Strikes game other.strike mv.to → IsMeeting game me h q t
    go (inl own_hits) =
        let c = strike_near game me q (track_after game me (take t own)) mv.to other.to mv.strike legal.strike own_hits in
        record {
          unresolved = unresolved;
          own_end = mv.to;
          other_end = other.to;
          common = c.cell;
          own_walk = own_walk;
          other_walk = other_walk;
          inside = c.inside;
          own_near = c.near;
          other_near = c.hit;
        }
    go (inr is_hit) =
        let c = strike_near game q me (track_after game q (take t others)) other.to mv.to other.strike other_legal.strike is_hit in
        record {
          unresolved = unresolved;
          own_end = mv.to;
          other_end = other.to;
          common = c.cell;
          own_walk = own_walk;
          other_walk = other_walk;
          inside = c.inside;
          own_near = c.hit;
          other_near = c.near;
        }
