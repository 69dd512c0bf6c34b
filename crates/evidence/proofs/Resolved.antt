-- Resolved: the turns that a log resolves of a player, each by a commitment and a reveal that it got.
use Rattle.std.proofs.Common.{◌≡◌, ℕ, zero, suc, ◌+◌, ◌<◌, ◌≤◌, true, false, List, [], ◌∷◌, ◌++◌, length, Option, Some, None, refl, sym, ap, subst, ◌∙◌, arith, slice_get, take}
use Rattle.std.specs.Prelude.{not, ◌&&◌, ◌==◌, find, flat_map, is_some}
use Rattle.std.specs.List.{range_with_len}
use Rattle.std.proofs.lemmas.Bool.{and_parts, and_from, eq-eqb, eqb-true, ne_eqb}
use Rattle.std.proofs.lemmas.List.{length-take-le}
use Rattle.definitions.specs.declared.world.Move.{Move}
use Rattle.definitions.specs.declared.openings.Digest.{Digest}
use Rattle.definitions.specs.declared.frames.TurnFrame.{TurnFrame}
use Rattle.definitions.specs.declared.frames.TurnFrame.TheVariants.{Commit, Reveal}
use Rattle.definitions.specs.declared.logs.Entry.{Entry}
use Rattle.definitions.specs.Lists.{EachIs}
use Rattle.definitions.specs.World.{Game}
use Rattle.definitions.specs.Moves.{is_legal, track_after}
use Rattle.definitions.specs.Logs.{digest_eq, frames_of, got_of, player_of, turn_of}
use Rattle.definitions.specs.Held.{Known, commit_of, digest_of, known, opening_of}
use Rattle.definitions.specs.Findings.{got_known, is_illegal_after, is_reveal}
use Rattle.definitions.specs.Exhibits.{is_of_turn, is_opened_by, with_move_of, end_illegal}
use Rattle.definition_laws.specs.Members.{Has}
use Rattle.definition_laws.proofs.Alike.{digest_eq_true}
use Rattle.definition_laws.proofs.Behind.{frames_of_other, known_is_got}
use Rattle.definition_laws.proofs.Firsts.{resolved_is_first}
use Rattle.definition_laws.proofs.Listing.{take_more}
use Rattle.definition_laws.proofs.Members.{Has_middle}
use Rattle.definition_laws.proofs.Nexts.{held_is_first, some_at}
use Rattle.definition_laws.proofs.WellFormed.{got_entry, well_got}
use Rattle.plain_lemmas.proofs.Options.{some_when}
use Rattle.evidence.specs.Laws.{IsLogOf}
use Rattle.evidence.specs.Showing.{resolving, turn_shown, turns_shown}
use Rattle.evidence.proofs.Convicting.{digest_turned}

-- a player that is not this one
another : (q : ℕ) → q ≡ suc q → ⊥
another q e = absurd (omega arith)

got_is : (game : Game) (q : ℕ) (h : List Entry) → known game (suc q) h q ≡ got_known game q h
got_is game q h = known_is_got game (suc q) q h (another q)

frames_are : (q : ℕ) (h : List Entry) → frames_of (suc q) q h ≡ got_of q h
frames_are q h = frames_of_other (suc q) q h (another q)

-- the reveal by which a log resolves a turn, and the digest that it opens
pub record IsResolved (game : Game) (q u : ℕ) (h : List Entry) (m : Move) : Type 0 where
  pub digest : Digest
  pub frame : TurnFrame
  pub front : List TurnFrame
  pub back : List TurnFrame
  pub held : slice_get (got_known game q h).digests u ≡ Some digest
  pub stands : got_of q h ≡ front ++ frame ∷ back
  pub opens : opening_of game q (take u (got_known game q h).moves) digest u frame ≡ Some m
  pub first : EachIs (λ g. opening_of game q (take u (got_known game q h).moves) digest u g ≡ None) front

pub resolved_by : (game : Game) (q u : ℕ) (h : List Entry) (m : Move) → slice_get (got_known game q h).moves u ≡ Some m → IsResolved game q u h m
resolved_by game q u h m e =
    let same = got_is game q h in
    let r = resolved_is_first game (suc q) q u h m (ap (λ (k : Known). slice_get k.moves u) same ∙ e) in
    record {
      digest = r.0;
      frame = r.1;
      front = r.2;
      back = r.3;
      held = sym (ap (λ (k : Known). slice_get k.digests u) same) ∙ r.4;
      stands = sym (frames_are q h) ∙ r.5;
      opens = ap (λ (k : Known). opening_of game q (take u k.moves) r.0 u r.1) (sym same) ∙ r.6;
      first = subst (λ (k : Known). EachIs (λ g. opening_of game q (take u k.moves) r.0 u g ≡ None) r.2) same r.7;
    }

-- the commitment by which a log holds a turn
pub record IsHeld (q u : ℕ) (h : List Entry) (d : Digest) : Type 0 where
  pub player : ℕ
  pub front : List TurnFrame
  pub back : List TurnFrame
  pub stands : got_of q h ≡ front ++ Commit player u d ∷ back
  pub first : EachIs (λ f. commit_of u f ≡ None) front

pub held_by : (game : Game) (q u : ℕ) (h : List Entry) (d : Digest) → slice_get (got_known game q h).digests u ≡ Some d → IsHeld q u h d
held_by game q u h d e =
    let r = held_is_first game (suc q) q u h d (ap (λ (k : Known). slice_get k.digests u) (got_is game q h) ∙ e) in
    record { player = r.0; front = r.1; back = r.2; stands = sym (frames_are q h) ∙ r.3; first = r.4 }

-- what `find` gives after items that give nothing
pub find_there : {X Y : Type 0} (g : X → Option Y) (front back : List X) (x : X) → EachIs (λ z. g z ≡ None) front → is_some (g x) ≡ true → find (λ z. is_some (g z)) (front ++ x ∷ back) ≡ Some x
find_there g [] back x each some = rw some refl
find_there g (z ∷ front) back x each some = rw each.0 (find_there g front back x each.1 some)

-- a frame that a log of the session got of a player is the player's own
pub got_own : (game : Game) (q : ℕ) (h : List Entry) (front back : List TurnFrame) (f : TurnFrame) → IsLogOf game h → got_of q h ≡ front ++ f ∷ back → player_of f ≡ q
got_own game q h front back f log stands =
    (well_got game log.0 q h f log.1 (got_entry q h f (subst (λ (fs : List TurnFrame). Has fs f) (sym stands) (Has_middle front back f)))).2

-- what the two frames of a turn show that is resolved
pub record IsTurnShown (game : Game) (q u : ℕ) (h : List Entry) : Type 0 where
  pub commit : TurnFrame
  pub reveal : TurnFrame
  pub shown : turn_shown game q (got_known game q h) (got_of q h) u ≡ commit ∷ reveal ∷ []
  pub commit_of_turn : is_of_turn q u commit ≡ true
  pub reveal_of_turn : is_of_turn q u reveal ≡ true
  pub opened : is_opened_by game commit reveal ≡ true
  pub legal : is_illegal_after game q (take u (got_known game q h).moves) reveal ≡ false
  pub more : with_move_of (take u (got_known game q h).moves) reveal ≡ take (u + 1) (got_known game q h).moves

-- a reveal that gives this move
pub record GivesMove (game : Game) (q u : ℕ) (before : List Move) (d : Digest) (f : TurnFrame) (m : Move) : Type 0 where
  pub turn : turn_of f ≡ u
  pub reveals : is_reveal f ≡ true
  pub digest : digest_of game f ≡ d
  pub opens : (p v : ℕ) → is_opened_by game (Commit p v d) f ≡ true
  pub legal : is_illegal_after game q before f ≡ false
  pub move : with_move_of before f ≡ before ++ m ∷ []

pub opening_gives : (game : Game) (q u : ℕ) (before : List Move) (d : Digest) (f : TurnFrame) (m : Move) → opening_of game q before d u f ≡ Some m → GivesMove game q u before d f m
opening_gives game q u before d (Commit p v e) m h = absurd (let none : None ≡ Some m = h in cc)
opening_gives game q u before d (Reveal p v k n) m h =
    let given = some_when ((v == u) && digest_eq (digest_of game (Reveal p v k n)) d && is_legal game q (track_after game q before) k) k m h in
    let a = and_parts ((v == u) && digest_eq (digest_of game (Reveal p v k n)) d) (is_legal game q (track_after game q before) k) given.0 in
    let b = and_parts (v == u) (digest_eq (digest_of game (Reveal p v k n)) d) a.0 in
    record {
      turn = eqb-true v u b.0;
      reveals = refl;
      digest = digest_eq_true (digest_of game (Reveal p v k n)) d b.1;
      opens = λ r w. digest_turned d (digest_of game (Reveal p v k n)) ∙ b.1;
      legal = ap not a.1;
      move = ap (λ (x : Move). before ++ x ∷ []) given.1;
    }

pub turn_is_shown : (game : Game) (q u : ℕ) (h : List Entry) → IsLogOf game h → u < length (got_known game q h).moves → IsTurnShown game q u h
turn_is_shown game q u h log lt =
    let k : Known = got_known game q h in
    let there = some_at k.moves u lt in
    let r = resolved_by game q u h there.0 there.1 in
    let c = held_by game q u h r.digest r.held in
    let commit : TurnFrame = Commit c.player u r.digest in
    let given = opening_gives game q u (take u k.moves) r.digest r.frame there.0 r.opens in
    let own : c.player ≡ q = got_own game q h c.front c.back commit log c.stands in
    let first : find (λ f. is_some (commit_of u f)) (got_of q h) ≡ Some commit =
    ap (find (λ f. is_some (commit_of u f))) c.stands ∙ find_there (commit_of u) c.front c.back commit c.first (let e = eq-eqb u u refl in rw e refl) in
    let second : resolving game q k (got_of q h) u (slice_get k.digests u) ≡ Some r.frame =
    ap (resolving game q k (got_of q h) u) r.held ∙ ap (find (λ f. is_some (opening_of game q (take u k.moves) r.digest u f))) r.stands
    ∙ find_there (opening_of game q (take u k.moves) r.digest u) r.front r.back r.frame r.first (rw r.opens refl) in
    record {
      commit = commit;
      reveal = r.frame;
      shown = rw (first, second) refl;
      commit_of_turn = and_from _ _ (eq-eqb c.player q own) (eq-eqb u u refl);
      reveal_of_turn = and_from _ _ (eq-eqb (player_of r.frame) q (got_own game q h r.front r.back r.frame log r.stands)) (eq-eqb (turn_of r.frame) u given.turn);
      opened = given.opens c.player u;
      legal = given.legal;
      more = given.move ∙ sym (take_more u k.moves there.0 there.1);
    }

-- ---- the turns one behind the other

-- a commitment and a reveal that opens it to a move that is not legal after those of the turns before
pub record EndsIllegal (game : Game) (q t : ℕ) (h : List Entry) (c r : TurnFrame) : Type 0 where
  pub commit_of_turn : is_of_turn q t c ≡ true
  pub reveal_of_turn : is_of_turn q t r ≡ true
  pub opened : is_opened_by game c r ≡ true
  pub illegal : is_illegal_after game q (take t (got_known game q h).moves) r ≡ true
  pub before : t ≤ length (got_known game q h).moves

pub last_turn : (game : Game) (q t : ℕ) (f g : TurnFrame) (before : List Move) → length before ≡ t → is_of_turn q t f ≡ true → is_of_turn q t g ≡ true → is_opened_by game f g ≡ true →
    is_illegal_after game q before g ≡ true → end_illegal game q t (f ∷ g ∷ []) before ≡ true
unfolding end_illegal
last_turn game q t f g before len a b c d =
    let here : (t == t) ≡ true = eq-eqb t t refl in
    rw (len, a, b, c, here, d) refl

pub more_turn : (game : Game) (q t u : ℕ) (f g : TurnFrame) (fs : List TurnFrame) (before after : List Move) → length before ≡ u → u < t → is_of_turn q u f ≡ true → is_of_turn q u g ≡ true →
    is_opened_by game f g ≡ true → is_illegal_after game q before g ≡ false → with_move_of before g ≡ after → end_illegal game q t fs after ≡ true → end_illegal game q t (f ∷ g ∷ fs) before ≡ true
unfolding end_illegal
more_turn game q t u f g fs before after len lt a b c d m rest =
    let there : (u == t) ≡ false = ne_eqb u t (λ e. absurd (omega arith)) in
    rw (len, a, b, c, there, d, m) rest

turns_end : (game : Game) (q t : ℕ) (h : List Entry) (c r : TurnFrame) (n u : ℕ) → IsLogOf game h → EndsIllegal game q t h c r → u + n ≡ t →
    end_illegal game q t (flat_map (turn_shown game q (got_known game q h) (got_of q h)) (range_with_len u n) ++ c ∷ r ∷ []) (take u (got_known game q h).moves) ≡ true
turns_end game q t h c r zero u log last e =
    let le = last.before in
    let same : u ≡ t = omega arith in
    let before : List Move = take u (got_known game q h).moves in
    last_turn game q t c r before (length-take-le u _ (omega arith) ∙ same) last.commit_of_turn last.reveal_of_turn last.opened
    (ap (λ (i : ℕ). is_illegal_after game q (take i (got_known game q h).moves) r) same ∙ last.illegal)
turns_end game q t h c r (suc n) u log last e =
    let le = last.before in
    let k : Known = got_known game q h in
    let one = turn_is_shown game q u h log (omega arith) in
    let rest = turns_end game q t h c r n (u + 1) log last (omega arith) in
    let others : List TurnFrame = flat_map (turn_shown game q k (got_of q h)) (range_with_len (u + 1) n) ++ c ∷ r ∷ [] in
    let split : flat_map (turn_shown game q k (got_of q h)) (range_with_len u (suc n)) ++ c ∷ r ∷ [] ≡ one.commit ∷ one.reveal ∷ others = rw one.shown refl in
    ap (λ (fs : List TurnFrame). end_illegal game q t fs (take u k.moves)) split
    ∙ more_turn game q t u one.commit one.reveal others (take u k.moves) (take (u + 1) k.moves) (length-take-le u k.moves (omega arith)) (omega arith) one.commit_of_turn one.reveal_of_turn one.opened one.legal one.more rest

pub turns_show : (game : Game) (q t : ℕ) (h : List Entry) (c r : TurnFrame) → IsLogOf game h → EndsIllegal game q t h c r → end_illegal game q t (turns_shown game q t h ++ c ∷ r ∷ []) [] ≡ true
unfolding turns_shown
turns_show game q t h c r log last = turns_end game q t h c r t 0 log last (omega arith)
