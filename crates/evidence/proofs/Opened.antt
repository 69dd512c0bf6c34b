-- Opened: the frames of an illegal move are those of openings, turn by turn.
use Rattle.std.proofs.Common.{◌≡◌, ℕ, suc, ◌+◌, ◌<◌, Bool, true, false, List, [], ◌∷◌, ◌++◌, length, refl, sym, ap, subst, ◌∙◌, append_assoc, length-append, arith, inl, inr}
use Rattle.std.specs.Prelude.{not, ◌&&◌, ◌==◌, nat_lt}
use Rattle.std.proofs.lemmas.Bool.{and_parts, and_from, eq-eqb, eqb-true, lt-ltb, false≢true}
use Rattle.std.proofs.lemmas.List.{append-nil}
use Rattle.definitions.specs.declared.world.Move.{Move}
use Rattle.definitions.specs.declared.world.Track.{Track}
use Rattle.definitions.specs.declared.openings.Digest.{Digest}
use Rattle.definitions.specs.declared.openings.Opening.{Opening}
use Rattle.definitions.specs.declared.frames.TurnFrame.{TurnFrame}
use Rattle.definitions.specs.declared.frames.TurnFrame.TheVariants.{Commit, Reveal}
use Rattle.definitions.specs.declared.findings.Kind.TheVariants.{Illegal}
use Rattle.definitions.specs.World.{Game, players_of}
use Rattle.definitions.specs.Openings.{commitment}
use Rattle.definitions.specs.Moves.{are_legal_from, is_legal, next_track, start_track, track_after}
use Rattle.definitions.specs.Held.{digest_of}
use Rattle.definitions.specs.Findings.{is_illegal_after}
use Rattle.definitions.specs.Exhibits.{are_of_kind, end_illegal, is_of_turn, is_opened_by, with_move_of, Shows}
use Rattle.definition_laws.proofs.Alike.{digest_eq_same, digest_eq_true}
use Rattle.definition_laws.proofs.Tracks.{track_from_append}
use Rattle.evidence.specs.Openings.{AreInTurn, IsIllegalPlay, frames_of_opening, frames_of_openings, moves_of}
use Rattle.evidence.proofs.Counted.{turn_of_illegal}
use Rattle.evidence.proofs.Resolved.{last_turn, more_turn}

-- ---- from frames to openings

-- the frames of a turn are those of an opening
record IsOpening (game : Game) (q u : ℕ) (f g : TurnFrame) (o : Opening) : Type 0 where
  player : o.player ≡ q
  turn : o.turn ≡ u
  first : f ≡ Commit o.player o.turn (commitment game.id o)
  second : g ≡ Reveal o.player o.turn o.mv o.nonce

opening_of : (game : Game) (q u : ℕ) (f g : TurnFrame) → is_of_turn q u f ≡ true → is_of_turn q u g ≡ true → is_opened_by game f g ≡ true → (o : Opening) × IsOpening game q u f g o
unfolding digest_of
opening_of game q u (Commit p v d) (Commit r w e) a b c = absurd (false≢true c)
opening_of game q u (Reveal p v m n) g a b c = absurd (false≢true c)
opening_of game q u (Commit p v d) (Reveal r w m n) a b c =
    let o : Opening = record { player = r; turn = w; mv = m; nonce = n } in
    let x = and_parts (p == q) (v == u) a in
    let y = and_parts (r == q) (w == u) b in
    let player : p ≡ r = eqb-true p q x.0 ∙ sym (eqb-true r q y.0) in
    let turn : v ≡ w = eqb-true v u x.1 ∙ sym (eqb-true w u y.1) in
    let digest : d ≡ commitment game.id o = digest_eq_true d (commitment game.id o) c in (
      o,
      record {
        player = eqb-true r q y.0;
        turn = eqb-true w u y.1;
        first = ap (λ (k : ℕ). Commit k v d) player ∙ ap (λ (k : ℕ). Commit r k d) turn ∙ ap (λ (k : Digest). Commit r w k) digest;
        second = refl;
      },
    )

-- openings behind moves that were legal, of which the frames show the first move that is not legal
record IsPlayFrom (game : Game) (q t : ℕ) (fs : List TurnFrame) (moves : List Move) (before : List Opening) (last : Opening) : Type 0 where
  count : length moves + length before ≡ t
  in_turn : AreInTurn q (length moves) (before ++ last ∷ [])
  legal : are_legal_from game q (track_after game q moves) (moves_of before) ≡ true
  illegal : is_legal game q (track_after game q (moves ++ moves_of before)) last.mv ≡ false
  frames : fs ≡ frames_of_openings game (before ++ last ∷ [])

-- a reveal that is or isn't legal, by its move
legal_of : (game : Game) (q : ℕ) (moves : List Move) (g : TurnFrame) (o : Opening) (b : Bool) → g ≡ Reveal o.player o.turn o.mv o.nonce → is_illegal_after game q moves g ≡ not b → is_legal game q (track_after game q moves) o.mv ≡ b
legal_of game q moves g o b is h = not_same _ b (ap (is_illegal_after game q moves) (sym is) ∙ h)
  where
    not_same : (a b : Bool) → not a ≡ not b → a ≡ b
    not_same true true e = refl
    not_same false false e = refl
    not_same true false e = absurd (false≢true e)
    not_same false true e = absurd (false≢true (sym e))

two_frames : (game : Game) (q u : ℕ) (f g : TurnFrame) (o : Opening) (fs gs : List TurnFrame) → IsOpening game q u f g o → fs ≡ gs → f ∷ g ∷ fs ≡ frames_of_opening game o ++ gs
two_frames game q u f g o fs gs w same =
    ap (λ (x : TurnFrame). x ∷ g ∷ fs) w.first ∙ ap (λ (x : TurnFrame). Commit o.player o.turn (commitment game.id o) ∷ x ∷ fs) w.second
    ∙ ap (λ (xs : List TurnFrame). frames_of_opening game o ++ xs) same

play_from : (game : Game) (q t : ℕ) (fs : List TurnFrame) (moves : List Move) → end_illegal game q t fs moves ≡ true → (before : List Opening) × (last : Opening) × IsPlayFrom game q t fs moves before last
unfolding end_illegal
play_from game q t [] moves h = absurd (false≢true h)
play_from game q t (f ∷ []) moves h = absurd (false≢true h)
play_from game q t (f ∷ g ∷ fs) moves h =
    let w = turn_of_illegal game q t f g fs moves h in
    let opened = opening_of game q (length moves) f g w.first w.second w.opened in
    let o = opened.0 in
    let is = opened.1 in
    elim w.rest [
      | inl here ↦ (
        [],
        o,
        record {
          count = let e = here.0 in omega arith;
          in_turn = (is.player, is.turn, tt);
          legal = refl;
          illegal = ap (λ (ms : List Move). is_legal game q (track_after game q ms) o.mv) (append-nil moves) ∙ legal_of game q moves g o false is.second here.1;
          frames = two_frames game q (length moves) f g o fs [] is here.2;
        },
      )
      | inr there ↦
          let next : List Move = moves ++ o.mv ∷ [] in
          let more : with_move_of moves g ≡ next = ap (with_move_of moves) is.second in
          let r = play_from game q t fs (with_move_of moves g) there.2 in
          let rest : IsPlayFrom game q t fs next r.0 r.1 = subst (λ (ms : List Move). IsPlayFrom game q t fs ms r.0 r.1) more r.2 in
          let len : length next ≡ suc (length moves) = let l = length-append moves (o.mv ∷ []) in omega arith in
          let track : track_after game q next ≡ next_track game (track_after game q moves) o.mv = track_from_append game (start_track game q) moves (o.mv ∷ []) in (
            o ∷ r.0,
            r.1,
            record {
              count = let e = rest.count in omega arith;
              in_turn = (is.player, is.turn, subst (λ (n : ℕ). AreInTurn q n (r.0 ++ r.1 ∷ [])) len rest.in_turn);
              legal = and_from _ _ (legal_of game q moves g o true is.second there.1) (ap (λ (x : Track). are_legal_from game q x (moves_of r.0)) (sym track) ∙ rest.legal);
              illegal = ap (λ (ms : List Move). is_legal game q (track_after game q ms) r.1.mv) (sym (append_assoc moves (o.mv ∷ []) (moves_of r.0))) ∙ rest.illegal;
              frames = two_frames game q (length moves) f g o fs (frames_of_openings game (r.0 ++ r.1 ∷ [])) is rest.frames;
            },
          )
    ]

pub shown_openings : (game : Game) (q t : ℕ) (fs : List TurnFrame) → Shows game q t Illegal fs →
    (before : List Opening) × (last : Opening) × IsIllegalPlay game q t before last × (fs ≡ frames_of_openings game (before ++ last ∷ []))
unfolding are_of_kind
shown_openings game q t fs shown =
    let r = play_from game q t fs [] (and_parts (nat_lt q (players_of game) && nat_lt t game.turns) (end_illegal game q t fs []) shown).1 in
    let w = r.2 in
    let count = w.count in
    (r.0, r.1, record { count = omega arith; in_turn = w.in_turn; legal = w.legal; illegal = w.illegal }, w.frames)

-- ---- and back

opens_own : (game : Game) (o : Opening) → is_opened_by game (Commit o.player o.turn (commitment game.id o)) (Reveal o.player o.turn o.mv o.nonce) ≡ true
unfolding digest_of
opens_own game o = digest_eq_same (commitment game.id o)

of_turn : (q u p t : ℕ) → p ≡ q → t ≡ u → (p == q) && (t == u) ≡ true
of_turn q u p t player turn = and_from _ _ (eq-eqb p q player) (eq-eqb t u turn)

play_shows : (game : Game) (q t : ℕ) (moves : List Move) (before : List Opening) (last : Opening) → length moves + length before ≡ t → AreInTurn q (length moves) (before ++ last ∷ []) →
    are_legal_from game q (track_after game q moves) (moves_of before) ≡ true → is_legal game q (track_after game q (moves ++ moves_of before)) last.mv ≡ false →
    end_illegal game q t (frames_of_openings game (before ++ last ∷ [])) moves ≡ true
play_shows game q t moves [] last count turns legal illegal =
    let none : is_legal game q (track_after game q moves) last.mv ≡ false = ap (λ (ms : List Move). is_legal game q (track_after game q ms) last.mv) (sym (append-nil moves)) ∙ illegal in
    let at : length moves ≡ t = omega arith in
    let own = of_turn q t last.player last.turn turns.0 (turns.1 ∙ at) in
    last_turn game q t (Commit last.player last.turn (commitment game.id last)) (Reveal last.player last.turn last.mv last.nonce) moves at own own (opens_own game last) (ap not none)
play_shows game q t moves (o ∷ before) last count turns legal illegal =
    let both = and_parts (is_legal game q (track_after game q moves) o.mv) (are_legal_from game q (next_track game (track_after game q moves) o.mv) (moves_of before)) legal in
    let next : List Move = moves ++ o.mv ∷ [] in
    let len : length next ≡ suc (length moves) = let l = length-append moves (o.mv ∷ []) in omega arith in
    let track : track_after game q next ≡ next_track game (track_after game q moves) o.mv = track_from_append game (start_track game q) moves (o.mv ∷ []) in
    let own = of_turn q (length moves) o.player o.turn turns.0 turns.1 in
    let rest = play_shows game q t next before last (omega (arith, len, count)) (subst (λ (n : ℕ). AreInTurn q n (before ++ last ∷ [])) (sym len) turns.2)
    (ap (λ (x : Track). are_legal_from game q x (moves_of before)) track ∙ both.1)
    (ap (λ (ms : List Move). is_legal game q (track_after game q ms) last.mv) (append_assoc moves (o.mv ∷ []) (moves_of before)) ∙ illegal) in
    more_turn game q t (length moves) (Commit o.player o.turn (commitment game.id o)) (Reveal o.player o.turn o.mv o.nonce) (frames_of_openings game (before ++ last ∷ [])) moves next refl (omega arith) own own (opens_own game o)
    (ap not both.0) refl rest

pub openings_show : (game : Game) (q t : ℕ) (before : List Opening) (last : Opening) → q < players_of game → t < game.turns → IsIllegalPlay game q t before last →
    Shows game q t Illegal (frames_of_openings game (before ++ last ∷ []))
unfolding are_of_kind
openings_show game q t before last ql tl w =
    let count = w.count in
    and_from _ _ (and_from _ _ (lt-ltb _ _ ql) (lt-ltb _ _ tl)) (play_shows game q t [] before last (omega arith) w.in_turn w.legal w.illegal)
