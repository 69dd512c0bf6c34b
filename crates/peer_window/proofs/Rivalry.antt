-- Rivalry: the first clash with a frame that comes beside a different one of its place.
use Rattle.std.proofs.Common.{◌≡◌, ℕ, ◌+◌, ◌*◌, ◌<◌, List, [], ◌∷◌, ◌++◌, length, refl, Bool, true, false, sym, ◌∙◌, ap, arith, Option, Some, None}
use Rattle.std.specs.Prelude.{◌==◌, ◌&&◌, ◌||◌, not, cond, if◌then◌else◌, min, nat_lt}
use Rattle.std.specs.List.{range_with_len}
use Rattle.definition_laws.proofs.Listing.{append_nil}
use Rattle.std.proofs.lemmas.Bool.{eq-eqb, ltb-false, ltb-true, ne_eqb}
use Rattle.definitions.specs.declared.findings.Kind.{Kind}
use Rattle.definitions.specs.declared.findings.Kind.TheVariants.{TwoCommits, BadOpening, Collision}
use Rattle.definitions.specs.declared.world.Move.{Move}
use Rattle.definitions.specs.declared.openings.Digest.{Digest}
use Rattle.definitions.specs.declared.openings.Nonce.{Nonce}
use Rattle.definitions.specs.declared.frames.TurnFrame.{TurnFrame}
use Rattle.definitions.specs.declared.frames.TurnFrame.TheVariants.{Commit, Reveal}
use Rattle.definitions.specs.World.{Game}
use Rattle.definitions.specs.Logs.{digest_eq, frame_eq, player_of, turn_of}
use Rattle.definitions.specs.Lists.{first_of}
use Rattle.definitions.specs.Held.{Known, digest_of}
use Rattle.definitions.specs.Findings.{is_reveal, kinds}
use Rattle.grid_world.specs.Sessions.{IsSession}
use Rattle.peer_window.specs.declared.received.Received.{Received}
use Rattle.definitions.specs.declared.findings.Finding.{Finding}
use Rattle.grid_world.specs.declared.streams.Stream.{Stream}
use Rattle.peer_window.specs.Clashes.{clash_among, clash_in, clash_of, finding_by, first_clash, lower_entry, of_turn, rival_clash, rival_first, rival_kind, same_digest}
use Rattle.peer_window.specs.Slots.{in_order, other_slot, slot_of, shown, slot}
use Rattle.peer_window.specs.Windows.{IsHeld}
use Rattle.peer_window.proofs.Clashing.{pair_same}
use Rattle.peer_window.proofs.Holding.{pairs_agree, turn_at}
use Rattle.peer_window.proofs.OfTurns.{turn_slots}
use Rattle.peer_window.proofs.Pairs.{among_three, among_two, digest_swap, digest_sym, range_at, range_none}
use Rattle.peer_window.proofs.Rivals.{rival_known}
use Rattle.peer_window.proofs.Stretches.{is_commitment}
use Rattle.peer_window.proofs.Stretches as S
use Rattle.peer_window.proofs.Turns.{clash_same, pair_clash}

-- the first kind that shows
pub kind_first : (f : Kind → Option Finding) (x : Finding) → f TwoCommits ≡ Some x → first_of f kinds ≡ Some x
kind_first f x e = rw e refl

kind_second : (f : Kind → Option Finding) (x : Finding) → f TwoCommits ≡ None → f BadOpening ≡ Some x → first_of f kinds ≡ Some x
kind_second f x e g = rw (e, g) refl

kind_third : (f : Kind → Option Finding) (x : Finding) → f TwoCommits ≡ None → f BadOpening ≡ None → f Collision ≡ Some x → first_of f kinds ≡ Some x
kind_third f x e g h = rw (e, g, h) refl

-- what the tests say of frames of which it is known what they are
two_commits : (game : Game) (a b : Received) (x y : Bool) → is_reveal a.frame ≡ x → is_reveal b.frame ≡ y → (not (is_reveal a.frame) && not (is_reveal b.frame) && not (same_digest game a b)) ≡ (not x && not y && not (same_digest game a b))
two_commits game a b x y e f = ap (λ (c : Bool). not c && not (is_reveal b.frame) && not (same_digest game a b)) e ∙ ap (λ (c : Bool). not x && not c && not (same_digest game a b)) f

bad_opening : (game : Game) (a b : Received) (x y s : Bool) → is_reveal a.frame ≡ x → is_reveal b.frame ≡ y → same_digest game a b ≡ s → ((is_reveal a.frame || is_reveal b.frame) && not (same_digest game a b)) ≡ ((x || y) && not s)
bad_opening game a b x y s e f g =
    ap (λ (c : Bool). (c || is_reveal b.frame) && not (same_digest game a b)) e ∙ ap (λ (c : Bool). (x || c) && not (same_digest game a b)) f ∙ ap (λ (c : Bool). (x || y) && not c) g

collision : (game : Game) (a b : Received) (x y z s : Bool) → is_reveal a.frame ≡ x → is_reveal b.frame ≡ y → frame_eq a.frame b.frame ≡ z → same_digest game a b ≡ s →
    (is_reveal a.frame && is_reveal b.frame && not (frame_eq a.frame b.frame) && same_digest game a b) ≡ (x && y && not z && s)
collision game a b x y z s e f g h =
    ap (λ (c : Bool). c && is_reveal b.frame && not (frame_eq a.frame b.frame) && same_digest game a b) e ∙ ap (λ (c : Bool). x && c && not (frame_eq a.frame b.frame) && same_digest game a b) f
    ∙ ap (λ (c : Bool). x && y && not c && same_digest game a b) g ∙ ap (λ (c : Bool). x && y && not z && c) h

-- a second commitment, with another digest
rival_commits : (game : Game) (q t : ℕ) (k : Known) (h r : Received) (o : Option Received) → is_reveal h.frame ≡ false → is_reveal r.frame ≡ false → same_digest game h r ≡ false → ((g : Received) → o ≡ Some g → is_reveal g.frame ≡ true) →
    first_of (clash_among game q t k (in_order (Some h ∷ o ∷ []) ++ r ∷ [])) kinds ≡ Some (clash_of q t TwoCommits (h, r))
rival_commits game q t k h r None e f s g =
    kind_first (clash_among game q t k (h ∷ r ∷ [])) _ (among_two game q t k h r TwoCommits true (two_commits game h r false false e f ∙ ap not s))
rival_commits game q t k h r (Some x) e f s g = go (nat_lt h.entry x.entry)
  where
    go : (b : Bool) → first_of (clash_among game q t k ((if b then h ∷ x ∷ [] else x ∷ h ∷ []) ++ r ∷ [])) kinds ≡ Some (clash_of q t TwoCommits (h, r))
    go true =
        kind_first (clash_among game q t k (h ∷ x ∷ r ∷ [])) _
        (among_three game q t k h x r TwoCommits true false (two_commits game h x false true e (g x refl)) (two_commits game h r false false e f ∙ ap not s) (two_commits game x r true false (g x refl) f))
    go false =
        kind_first (clash_among game q t k (x ∷ h ∷ r ∷ [])) _
        (among_three game q t k x h r TwoCommits false true (two_commits game x h true false (g x refl) e) (two_commits game x r true false (g x refl) f) (two_commits game h r false false e f ∙ ap not s))

-- a second reveal, with another digest
rival_opens : (game : Game) (q t : ℕ) (k : Known) (h r : Received) (o : Option Received) → is_reveal h.frame ≡ true → is_reveal r.frame ≡ true → same_digest game h r ≡ false →
    ((c : Received) → o ≡ Some c → (is_reveal c.frame ≡ false) × (same_digest game c h ≡ true)) →
    first_of (clash_among game q t k (in_order (o ∷ Some h ∷ []) ++ r ∷ [])) kinds ≡ Some (finding_by q t BadOpening (lower_entry h o) r.entry)
rival_opens game q t k h r None e f s g =
    kind_second (clash_among game q t k (h ∷ r ∷ [])) _ (among_two game q t k h r TwoCommits false (two_commits game h r true true e f)) (among_two game q t k h r BadOpening true (bad_opening game h r true true false e f s))
rival_opens game q t k h r (Some c) e f s g = go (nat_lt c.entry h.entry) refl
  where
    commits : is_reveal c.frame ≡ false
    commits = (g c refl).0

    same : same_digest game c h ≡ true
    same = (g c refl).1

    swapped : same_digest game h c ≡ true
    swapped = digest_sym (digest_of game h.frame) (digest_of game c.frame) ∙ (g c refl).1

    apart : same_digest game c r ≡ false
    apart = digest_swap (digest_of game c.frame) (digest_of game h.frame) (digest_of game r.frame) (g c refl).1 ∙ s

    go : (b : Bool) → nat_lt c.entry h.entry ≡ b → first_of (clash_among game q t k ((if b then c ∷ h ∷ [] else h ∷ c ∷ []) ++ r ∷ [])) kinds ≡
        Some (finding_by q t BadOpening (min h.entry c.entry) r.entry)
    go true i =
        let lt = ltb-true c.entry h.entry i in
        kind_second (clash_among game q t k (c ∷ h ∷ r ∷ [])) _
        (among_three game q t k c h r TwoCommits false false (two_commits game c h false true commits e) (two_commits game c r false true commits f) (two_commits game h r true true e f))
        (among_three game q t k c h r BadOpening true true (bad_opening game c h false true true commits e same) (bad_opening game c r false true false commits f apart) (bad_opening game h r true true false e f s)
        ∙ ap (λ (x : Finding). Some x) (clash_same q q t t BadOpening c.entry r.entry (min h.entry c.entry) r.entry refl refl (omega arith) refl))
    go false i =
        let ge = ltb-false c.entry h.entry i in
        kind_second (clash_among game q t k (h ∷ c ∷ r ∷ [])) _
        (among_three game q t k h c r TwoCommits false false (two_commits game h c true false e commits) (two_commits game h r true true e f) (two_commits game c r false true commits f))
        (among_three game q t k h c r BadOpening true true (bad_opening game h c true false true e commits swapped) (bad_opening game h r true true false e f s) (bad_opening game c r false true false commits f apart)
        ∙ ap (λ (x : Finding). Some x) (clash_same q q t t BadOpening h.entry r.entry (min h.entry c.entry) r.entry refl refl (omega arith) refl))

-- a second reveal, with the same digest
rival_collides : (game : Game) (q t : ℕ) (k : Known) (h r : Received) (o : Option Received) → is_reveal h.frame ≡ true → is_reveal r.frame ≡ true → same_digest game h r ≡ true → frame_eq h.frame r.frame ≡ false →
    ((c : Received) → o ≡ Some c → (is_reveal c.frame ≡ false) × (same_digest game c h ≡ true)) →
    first_of (clash_among game q t k (in_order (o ∷ Some h ∷ []) ++ r ∷ [])) kinds ≡ Some (clash_of q t Collision (h, r))
rival_collides game q t k h r None e f s d g =
    kind_third (clash_among game q t k (h ∷ r ∷ [])) _ (among_two game q t k h r TwoCommits false (two_commits game h r true true e f)) (among_two game q t k h r BadOpening false (bad_opening game h r true true true e f s))
    (among_two game q t k h r Collision true (collision game h r true true false true e f d s))
rival_collides game q t k h r (Some c) e f s d g = go (nat_lt c.entry h.entry)
  where
    commits : is_reveal c.frame ≡ false
    commits = (g c refl).0

    same : same_digest game c h ≡ true
    same = (g c refl).1

    swapped : same_digest game h c ≡ true
    swapped = digest_sym (digest_of game h.frame) (digest_of game c.frame) ∙ (g c refl).1

    alike : same_digest game c r ≡ true
    alike = digest_swap (digest_of game c.frame) (digest_of game h.frame) (digest_of game r.frame) (g c refl).1 ∙ s

    go : (b : Bool) → first_of (clash_among game q t k ((if b then c ∷ h ∷ [] else h ∷ c ∷ []) ++ r ∷ [])) kinds ≡ Some (clash_of q t Collision (h, r))
    go true =
        kind_third (clash_among game q t k (c ∷ h ∷ r ∷ [])) _
        (among_three game q t k c h r TwoCommits false false (two_commits game c h false true commits e) (two_commits game c r false true commits f) (two_commits game h r true true e f))
        (among_three game q t k c h r BadOpening false false (bad_opening game c h false true true commits e same) (bad_opening game c r false true true commits f alike) (bad_opening game h r true true true e f s))
        (among_three game q t k c h r Collision false true (collision game c h false true _ _ commits e refl refl) (collision game c r false true _ _ commits f refl refl) (collision game h r true true false true e f d s))
    go false =
        kind_third (clash_among game q t k (h ∷ c ∷ r ∷ [])) _
        (among_three game q t k h c r TwoCommits false false (two_commits game h c true false e commits) (two_commits game h r true true e f) (two_commits game c r false true commits f))
        (among_three game q t k h c r BadOpening false false (bad_opening game h c true false true e commits swapped) (bad_opening game h r true true true e f s) (bad_opening game c r false true true commits f alike))
        (among_three game q t k h c r Collision true false (collision game h c true false _ _ e commits refl refl) (collision game h r true true false true e f d s) (collision game c r false true _ _ commits f refl refl))

-- the frames of a turn, with one more behind
pub turn_append : (t : ℕ) (rs : List Received) (r : Received) (b : Bool) → (turn_of r.frame == t) ≡ b → of_turn t (rs ++ r ∷ []) ≡ of_turn t rs ++ (if b then r ∷ [] else [])
turn_append t [] r b e = ap (λ (c : Bool). cond c (r ∷ []) []) e ∙ go b
  where
    go : (c : Bool) → cond c (r ∷ []) [] ≡ (if c then r ∷ [] else [])
    go true = refl
    go false = refl
turn_append t (x ∷ rs) r b e = ap (λ (ys : List Received). cond (turn_of x.frame == t) (x ∷ ys) ys) (turn_append t rs r b e) ∙ go (turn_of x.frame == t)
  where
    go : (c : Bool) → cond c (x ∷ (of_turn t rs ++ (if b then r ∷ [] else []))) (of_turn t rs ++ (if b then r ∷ [] else [])) ≡ cond c (x ∷ of_turn t rs) (of_turn t rs) ++ (if b then r ∷ [] else [])
    go true = refl
    go false = refl

reveals_at : (f : TurnFrame) (q t : ℕ) (m : Move) (o : Nonce) → f ≡ Reveal q t m o → is_reveal f ≡ true
reveals_at f q t m o e = ap is_reveal e

commits_at : (f : TurnFrame) (q t : ℕ) (d : Digest) → f ≡ Commit q t d → is_reveal f ≡ false
commits_at f q t d e = ap is_reveal e

-- different commitments of one player and turn have different digests
commits_differ : (game : Game) (h r : Received) (q t : ℕ) (d e : Digest) → h.frame ≡ Commit q t d → r.frame ≡ Commit q t e → frame_eq h.frame r.frame ≡ false → same_digest game h r ≡ false
unfolding digest_of
commits_differ game h r q t d e a b apart =
    let frames : frame_eq (Commit q t d) (Commit q t e) ≡ false = ap (λ (x : TurnFrame). frame_eq x (Commit q t e)) (sym a) ∙ ap (frame_eq h.frame) (sym b) ∙ apart in
    ap (λ (x : TurnFrame). digest_eq (digest_of game x) (digest_of game r.frame)) a ∙ ap (λ (x : TurnFrame). digest_eq d (digest_of game x)) b
    ∙ sym (ap (λ (c : Bool). c && (t == t) && digest_eq d e) (eq-eqb q q refl) ∙ ap (λ (c : Bool). c && digest_eq d e) (eq-eqb t t refl)) ∙ frames

-- the first clash with a frame that comes beside a different one of its place
pub rival_first_clash : (game : Game) (q : ℕ) (ss : List (Option Received)) (at : Stream) (r h : Received) → IsSession game → IsHeld game q ss at → first_clash game q (in_order ss) ≡ None →
    player_of r.frame ≡ q → slot_of r.frame < length ss → slot ss (slot_of r.frame) ≡ Some h → frame_eq h.frame r.frame ≡ false →
    Some (rival_clash game q h (slot ss (other_slot r.frame)) r) ≡ first_clash game q (in_order ss ++ r ∷ [])
unfolding first_clash clash_in digest_of
rival_first_clash game q ss at r h is w clean own lt e apart = go r.frame refl
  where
    among : (t : ℕ) → clash_in game q (in_order ss ++ r ∷ []) t ≡ first_of (clash_among game q t (shown ss at.commits at.resolved) (of_turn t (in_order ss ++ r ∷ []))) kinds
    among t = ap (λ (x : Known). first_of (clash_among game q t x (of_turn t (in_order ss ++ r ∷ []))) kinds) (rival_known game q ss at r h is w clean e)

    was : (t : ℕ) → clash_in game q (in_order ss) t ≡ first_of (clash_among game q t (shown ss at.commits at.resolved) (of_turn t (in_order ss))) kinds
    was t = ap (λ (x : Known). first_of (clash_among game q t x (of_turn t (in_order ss))) kinds) w.known

    before : (t : ℕ) → t < turn_of r.frame → t < game.turns → clash_in game q (in_order ss ++ r ∷ []) t ≡ None
    before t lower below =
        among t
        ∙ ap (λ (rs : List Received). first_of (clash_among game q t (shown ss at.commits at.resolved) rs) kinds) (turn_append t (in_order ss) r false (ne_eqb (turn_of r.frame) t (λ x. omega arith)) ∙ append_nil (of_turn t (in_order ss)))
        ∙ sym (was t) ∙ range_none (clash_in game q (in_order ss)) 0 game.turns t clean (omega arith) (omega arith)

    found : (x : Finding) → first_of (clash_among game q (turn_of r.frame) (shown ss at.commits at.resolved) (in_order (slot ss (2 * turn_of r.frame) ∷ slot ss (2 * turn_of r.frame + 1) ∷ []) ++ r ∷ [])) kinds ≡ Some x → Some x ≡ first_of (clash_in game q (in_order ss ++ r ∷ [])) (range_with_len 0 game.turns)
    found x f =
        let low = (turn_at r.frame).0 in
        let places = w.places in
        sym (range_at (clash_in game q (in_order ss ++ r ∷ [])) 0 game.turns (turn_of r.frame) x (omega arith) (omega arith) (λ t le lower. before t lower (omega arith))
        (among (turn_of r.frame)
        ∙ ap (λ (rs : List Received). first_of (clash_among game q (turn_of r.frame) (shown ss at.commits at.resolved) rs) kinds)
        (turn_append (turn_of r.frame) (in_order ss) r true (eq-eqb (turn_of r.frame) (turn_of r.frame) refl) ∙ ap (λ (rs : List Received). rs ++ r ∷ []) (turn_slots q at.commits at.resolved (turn_of r.frame) ss w.slots)) ∙ f))

    reveals : (p t : ℕ) (m : Move) (o : Nonce) → r.frame ≡ Reveal p t m o → turn_of r.frame ≡ t → slot ss (2 * t + 1) ≡ Some h → t < game.turns → is_reveal h.frame ≡ true → is_reveal r.frame ≡ true →
        ((c : Received) → slot ss (2 * t) ≡ Some c → (is_reveal c.frame ≡ false) × (same_digest game c h ≡ true)) → (b : Bool) → same_digest game h r ≡ b →
        Some (rival_clash game q h (slot ss (other_slot r.frame)) r) ≡ first_of (clash_in game q (in_order ss ++ r ∷ [])) (range_with_len 0 game.turns)
    reveals p t m o f at_turn here below a b c s i =
        ap (λ (x : Finding). Some x)
        (ap (λ (x : TurnFrame). finding_by q (turn_of x) (rival_kind game h r x) (rival_first game h (slot ss (other_slot x)) r x) r.entry) f
        ∙ ap (λ (x : Bool). finding_by q t (if x then Collision else BadOpening) (if x then h.entry else lower_entry h (slot ss (2 * t))) r.entry) i)
        ∙ by_digest s i
      where
        at_slots : (x : Finding) → first_of (clash_among game q t (shown ss at.commits at.resolved) (in_order (slot ss (2 * t) ∷ Some h ∷ []) ++ r ∷ [])) kinds ≡ Some x → Some x ≡ first_of (clash_in game q (in_order ss ++ r ∷ [])) (range_with_len 0 game.turns)
        at_slots x v =
            found x
            (ap (λ (n : ℕ). first_of (clash_among game q n (shown ss at.commits at.resolved) (in_order (slot ss (2 * n) ∷ slot ss (2 * n + 1) ∷ []) ++ r ∷ [])) kinds) at_turn
            ∙ ap (λ (y : Option Received). first_of (clash_among game q t (shown ss at.commits at.resolved) (in_order (slot ss (2 * t) ∷ y ∷ []) ++ r ∷ [])) kinds) here ∙ v)

        by_digest : (x : Bool) → same_digest game h r ≡ x → Some (finding_by q t (if x then Collision else BadOpening) (if x then h.entry else lower_entry h (slot ss (2 * t))) r.entry)
            ≡ first_of (clash_in game q (in_order ss ++ r ∷ [])) (range_with_len 0 game.turns)
        by_digest true j = at_slots _ (rival_collides game q t (shown ss at.commits at.resolved) h r (slot ss (2 * t)) a b j apart c)
        by_digest false j = at_slots _ (rival_opens game q t (shown ss at.commits at.resolved) h r (slot ss (2 * t)) a b j c)

    go : (f : TurnFrame) → r.frame ≡ f → Some (rival_clash game q h (slot ss (other_slot r.frame)) r) ≡ first_of (clash_in game q (in_order ss ++ r ∷ [])) (range_with_len 0 game.turns)
    go (Commit p t d) f =
        let player : p ≡ q = ap player_of (sym f) ∙ own in
        let at_place : slot_of r.frame ≡ 2 * t = ap slot_of f in
        let at_turn : turn_of r.frame ≡ t = ap turn_of f in
        let here : slot ss (2 * t) ≡ Some h = ap (slot ss) (sym at_place) ∙ e in
        let mine = w.slots.own (2 * t) h here in
        let hc = is_commitment h.frame q t mine.0 mine.1 in
        let differ = commits_differ game h r q t hc.0 d hc.1 (f ∙ ap (λ (x : ℕ). Commit x t d) player) apart in
        let value = rival_commits game q t (shown ss at.commits at.resolved) h r (slot ss (2 * t + 1)) (commits_at h.frame q t hc.0 hc.1) (commits_at r.frame p t d f) differ
        (λ g i. let k = S.is_reveal g.frame q t (w.slots.own (2 * t + 1) g i).0 (w.slots.own (2 * t + 1) g i).1 in reveals_at g.frame q t k.0 k.1 k.2) in
        ap (λ (x : Finding). Some x) (ap (λ (x : TurnFrame). finding_by q (turn_of x) (rival_kind game h r x) (rival_first game h (slot ss (other_slot x)) r x) r.entry) f)
        ∙ found (clash_of q t TwoCommits (h, r))
        (ap (λ (n : ℕ). first_of (clash_among game q n (shown ss at.commits at.resolved) (in_order (slot ss (2 * n) ∷ slot ss (2 * n + 1) ∷ []) ++ r ∷ [])) kinds) at_turn
        ∙ ap (λ (o : Option Received). first_of (clash_among game q t (shown ss at.commits at.resolved) (in_order (o ∷ slot ss (2 * t + 1) ∷ []) ++ r ∷ [])) kinds) here ∙ value)
    go (Reveal p t m o) f =
        let at_place : slot_of r.frame ≡ 2 * t + 1 = ap slot_of f in
        let at_turn : turn_of r.frame ≡ t = ap turn_of f in
        let here : slot ss (2 * t + 1) ≡ Some h = ap (slot ss) (sym at_place) ∙ e in
        let mine = w.slots.own (2 * t + 1) h here in
        let hr = S.is_reveal h.frame q t mine.0 mine.1 in
        let places = w.places in
        let below : t < game.turns = omega arith in
        let agree = pairs_agree game q t ss at is w clean below in
        reveals p t m o f at_turn here below (reveals_at h.frame q t hr.0 hr.1 hr.2) (reveals_at r.frame p t m o f)
        (λ c i. let k = is_commitment c.frame q t (w.slots.own (2 * t) c i).0 (w.slots.own (2 * t) c i).1 in (
          commits_at c.frame q t k.0 k.1,
          pair_same game q t c h (ap (λ (x : Option Received). pair_clash game q t x (Some h)) (sym i) ∙ ap (pair_clash game q t (slot ss (2 * t))) (sym here) ∙ agree),
        )) (same_digest game h r) refl
