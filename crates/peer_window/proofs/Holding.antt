-- Holding: the first clash with a frame that is put into an empty slot.
use Rattle.std.proofs.Common.{◌≡◌, ℕ, ◌+◌, ◌*◌, ◌<◌, ◌≤◌, List, length, set, refl, Bool, true, false, sym, ◌∙◌, ap, subst, arith, inl, inr, Option, Some, None, length-set}
use Rattle.std.specs.Prelude.{if◌then◌else◌, max, min, nat_lt, not}
use Rattle.std.specs.Option.{option_or}
use Rattle.std.proofs.lemmas.Bool.{eq-eqb, ltb-false, ltb-true, ne_eqb}
use Rattle.std.specs.List.{range_with_len}
use Rattle.plain_lemmas.proofs.Lists.{some_within}
use Rattle.definitions.specs.declared.findings.Kind.TheVariants.{BadOpening}
use Rattle.definitions.specs.declared.frames.TurnFrame.{TurnFrame}
use Rattle.definitions.specs.declared.frames.TurnFrame.TheVariants.{Commit, Reveal}
use Rattle.definitions.specs.World.{Game}
use Rattle.definitions.specs.Logs.{turn_of}
use Rattle.definitions.specs.Held.{digest_of}
use Rattle.definitions.specs.Lists.{first_of}
use Rattle.definitions.specs.declared.openings.Opening.{Opening}
use Rattle.reveal_check.specs.declared.judging.Verdict.{Verdict}
use Rattle.reveal_check.specs.declared.judging.Verdict.TheVariants as V
use Rattle.grid_world.specs.Sessions.{IsSession}
use Rattle.peer_window.specs.declared.received.Received.{Received}
use Rattle.definitions.specs.declared.findings.Finding.{Finding}
use Rattle.peer_window.specs.declared.received.Offer.{Offer}
use Rattle.grid_world.specs.declared.streams.Stream.{Stream}
use Rattle.peer_window.specs.Clashes.{clash_in, finding_by, first_clash, illegal_clash, is_of, lower_clash, opening_clash, same_digest}
use Rattle.peer_window.specs.Steps.{AgreeBut, frame_step, illegal_at, illegal_in, judged_step, reveal_step, slot_step}
use Rattle.peer_window.specs.Slots.{AreSlots, in_order, other_slot, slot_of, slot}
use Rattle.peer_window.specs.Windows.{IsHeld, new_answer}
use Rattle.peer_window.proofs.Clashing.{pair_same}
use Rattle.peer_window.proofs.Grown.{cases_eq, slot_other, slot_same}
use Rattle.peer_window.proofs.Ordered.{AllBefore, slot_each}
use Rattle.peer_window.proofs.Pairs.{digest_sym, none_range, or_none, range_at, range_none}
use Rattle.peer_window.proofs.Turns.{clash_same, end_clash, end_here, end_none, pair_clash, turn_value}

-- in a window without a clash the frames of a turn agree
pub pairs_agree : (game : Game) (q t : ℕ) (ss : List (Option Received)) (at : Stream) → IsSession game → IsHeld game q ss at → first_clash game q (in_order ss) ≡ None → t < game.turns →
    pair_clash game q t (slot ss (2 * t)) (slot ss (2 * t + 1)) ≡ None
unfolding first_clash
pairs_agree game q t ss at is h clean lt =
    (or_none _ _ (sym (turn_value game q t ss at is h) ∙ range_none (clash_in game q (in_order ss)) 0 game.turns t clean (omega arith) (omega arith))).0

-- the turn of a frame by its place
pub turn_at : (f : TurnFrame) → (2 * turn_of f ≤ slot_of f) × (slot_of f ≤ 2 * turn_of f + 1)
turn_at (Commit p t d) = (omega arith, omega arith)
turn_at (Reveal p t m n) = (omega arith, omega arith)

pair_opening : (game : Game) (t : ℕ) (c g : Received) (x : Finding) (y : Finding) (a b : Bool) → a ≡ b → x ≡ y → (if a then None else Some x) ≡ (if b then None else Some y)
pair_opening game t c g x y a b e f = ap (λ (s : Bool). if s then None else Some x) e ∙ ap (λ (z : Finding). if b then None else Some z) f

-- the new frame and the other of its turn, as the turn's slots have them
opening_first : (game : Game) (q : ℕ) (r : Received) (o : Option Received) → ((g : Received) → o ≡ Some g → g.entry < r.entry) →
    opening_clash game q o r ≡ pair_clash game q (turn_of r.frame) (Some r) o
opening_first game q r None later = refl
opening_first game q r (Some g) later =
    let lt = later g refl in
    pair_opening game 0 r g _ (finding_by q (turn_of r.frame) BadOpening (min r.entry g.entry) (max r.entry g.entry)) (same_digest game g r) (same_digest game r g)
    (digest_sym (digest_of game g.frame) (digest_of game r.frame)) (clash_same q q (turn_of r.frame) (turn_of r.frame) BadOpening g.entry r.entry (min r.entry g.entry) (max r.entry g.entry) refl refl (omega arith) (omega arith))

opening_second : (game : Game) (q : ℕ) (r : Received) (o : Option Received) → ((g : Received) → o ≡ Some g → g.entry < r.entry) →
    opening_clash game q o r ≡ pair_clash game q (turn_of r.frame) o (Some r)
opening_second game q r None later = refl
opening_second game q r (Some g) later =
    let lt = later g refl in
    pair_opening game 0 r g _ (finding_by q (turn_of r.frame) BadOpening (min g.entry r.entry) (max g.entry r.entry)) (same_digest game g r) (same_digest game g r)
    refl (clash_same q q (turn_of r.frame) (turn_of r.frame) BadOpening g.entry r.entry (min g.entry r.entry) (max g.entry r.entry) refl refl (omega arith) (omega arith))

opening_pair : (game : Game) (q : ℕ) (ss : List (Option Received)) (r : Received) (f : TurnFrame) → r.frame ≡ f → slot_of f < length ss → AllBefore r.entry (in_order ss) →
    opening_clash game q (slot ss (other_slot f)) r ≡ pair_clash game q (turn_of f) (slot (set ss (slot_of f) (Some r)) (2 * turn_of f)) (slot (set ss (slot_of f) (Some r)) (2 * turn_of f + 1))
opening_pair game q ss r (Commit p t d) e lt later =
    opening_first game q r (slot ss (2 * t + 1)) (λ g i. slot_each (λ x. x.entry < r.entry) ss (2 * t + 1) g later i)
    ∙ ap (λ (n : ℕ). pair_clash game q n (Some r) (slot ss (2 * t + 1))) (ap turn_of e)
    ∙ ap (λ (o : Option Received). pair_clash game q t o (slot ss (2 * t + 1))) (sym (slot_same ss (2 * t) r lt))
    ∙ ap (pair_clash game q t (slot (set ss (2 * t) (Some r)) (2 * t))) (sym (slot_other ss (2 * t) (2 * t + 1) r (λ k. omega arith)))
opening_pair game q ss r (Reveal p t m n) e lt later =
    opening_second game q r (slot ss (2 * t)) (λ g i. slot_each (λ x. x.entry < r.entry) ss (2 * t) g later i)
    ∙ ap (λ (i : ℕ). pair_clash game q i (slot ss (2 * t)) (Some r)) (ap turn_of e)
    ∙ ap (λ (o : Option Received). pair_clash game q t o (Some r)) (sym (slot_other ss (2 * t + 1) (2 * t) r (λ k. omega arith)))
    ∙ ap (pair_clash game q t (slot (set ss (2 * t + 1) (Some r)) (2 * t))) (sym (slot_same ss (2 * t + 1) r lt))

-- a clash of the frame with the other of its turn is of its turn
opening_turn : (game : Game) (q : ℕ) (o : Option Received) (r : Received) (y : Finding) → opening_clash game q o r ≡ Some y → y.turn ≡ turn_of r.frame
opening_turn game q None r y h = absurd (let no : None ≡ Some y = h in cc)
opening_turn game q (Some g) r y h = go (same_digest game g r) h
  where
    go : (b : Bool) → (if b then None else Some (finding_by q (turn_of r.frame) BadOpening g.entry r.entry)) ≡ Some y → y.turn ≡ turn_of r.frame
    go true e = absurd (let no : None ≡ Some y = e in cc)
    go false e = let same : (finding_by q (turn_of r.frame) BadOpening g.entry r.entry) ≡ y = cc in ap (λ (k : Finding). k.turn) (sym same)

-- other turns are as they were
pub elsewhere : (game : Game) (q t : ℕ) (ss : List (Option Received)) (at : Stream) (r : Received) → IsSession game → IsHeld game q ss at → first_clash game q (in_order ss) ≡ None → t < game.turns → (t ≡ turn_of r.frame → ⊥) →
    pair_clash game q t (slot (set ss (slot_of r.frame) (Some r)) (2 * t)) (slot (set ss (slot_of r.frame) (Some r)) (2 * t + 1)) ≡ None
elsewhere game q t ss at r is h clean le apart =
    let near = turn_at r.frame in
    let low = near.0 in
    let high = near.1 in
    ap (λ (o : Option Received). pair_clash game q t o (slot (set ss (slot_of r.frame) (Some r)) (2 * t + 1))) (slot_other ss (slot_of r.frame) (2 * t) r (λ e. apart (omega arith)))
    ∙ ap (pair_clash game q t (slot ss (2 * t))) (slot_other ss (slot_of r.frame) (2 * t + 1) r (λ e. apart (omega arith)))
    ∙ pairs_agree game q t ss at is h clean le

-- the frames of a turn agree where they make no clash
clash_tells : (game : Game) (q t : ℕ) (c g : Received) → same_digest game c g ≡ not (is_of (pair_clash game q t (Some c) (Some g)) t)
clash_tells game q t c g = go (same_digest game c g)
  where
    go : (b : Bool) → b ≡ not (is_of (if b then None else Some (finding_by q t BadOpening (min c.entry g.entry) (max c.entry g.entry))) t)
    go true = refl
    go false = ap not (sym (eq-eqb t t refl))

-- with a frame in the empty slot of its place the frames of each turn agree, but where it makes a clash with the other of its own
pub agree_held : (game : Game) (q at_slot : ℕ) (ss : List (Option Received)) (at : Stream) (r : Received) (bad : Option Finding) (other : Option Received) → IsSession game → IsHeld game q ss at → first_clash game q (in_order ss) ≡ None →
    slot_of r.frame < length ss → AllBefore r.entry (in_order ss) → at_slot ≡ slot_of r.frame → other ≡ slot ss (other_slot r.frame) → bad ≡ opening_clash game q other r → AgreeBut game (set ss at_slot (Some r)) bad
agree_held game q at_slot ss at r bad other is h clean lt later is_slot other_is bad_is = let P : ℕ → Type 0 = λ n. AgreeBut game (set ss n (Some r)) bad in subst P (sym is_slot) there
  where
    opening : bad ≡ pair_clash game q (turn_of r.frame) (slot (set ss (slot_of r.frame) (Some r)) (2 * turn_of r.frame)) (slot (set ss (slot_of r.frame) (Some r)) (2 * turn_of r.frame + 1))
    opening = bad_is ∙ ap (λ (o : Option Received). opening_clash game q o r) other_is ∙ opening_pair game q ss r r.frame refl lt later

    -- a clash of the new frame is none of another turn
    apart_from : (t : ℕ) → (t ≡ turn_of r.frame → ⊥) → (o : Option Finding) → bad ≡ o → is_of o t ≡ false
    apart_from t apart None e = refl
    apart_from t apart (Some y) e = let turn = opening_turn game q other r y (sym bad_is ∙ e) in ne_eqb y.turn t (λ k. apart (omega arith))

    there : AgreeBut game (set ss (slot_of r.frame) (Some r)) bad
    there t c g e f = elim (cases_eq t (turn_of r.frame)) [
      | inl same ↦
          clash_tells game q t c g
          ∙ ap (λ (o : Option Received). not (is_of (pair_clash game q t o (Some g)) t)) (sym e)
          ∙ ap (λ (o : Option Received). not (is_of (pair_clash game q t (slot (set ss (slot_of r.frame) (Some r)) (2 * t)) o) t)) (sym f)
          ∙ ap (λ (n : ℕ). not (is_of (pair_clash game q n (slot (set ss (slot_of r.frame) (Some r)) (2 * n)) (slot (set ss (slot_of r.frame) (Some r)) (2 * n + 1))) t)) same
          ∙ ap (λ (x : Option Finding). not (is_of x t)) (sym opening)
      | inr apart ↦
          let within = some_within (set ss (slot_of r.frame) (Some r)) (2 * t) c e in
          let len = length-set ss (slot_of r.frame) (Some r) in
          let places = h.places in
          let none : pair_clash game q t (Some c) (Some g) ≡ None =
          ap (λ (o : Option Received). pair_clash game q t o (Some g)) (sym e) ∙ ap (pair_clash game q t (slot (set ss (slot_of r.frame) (Some r)) (2 * t))) (sym f) ∙ elsewhere game q t ss at r is h clean (omega arith) apart in
          pair_same game q t c g none ∙ ap not (sym (apart_from t apart bad refl))
    ]

-- a reveal that is illegal is of the turn that isn't resolved
illegal_turn : (game : Game) (q : ℕ) (ss : List (Option Received)) (at : Stream) (x : Finding) → AreSlots q ss at.commits at.resolved → illegal_at game ss at ≡ Some x → (x.turn ≡ at.resolved) × (2 * at.resolved + 1 < length ss)
illegal_turn game q ss at x w h = revealed (slot ss (2 * at.resolved + 1)) refl h
  where
    judged : (c g : Received) (v : Verdict) → illegal_in (judged_step c g v) ≡ Some x → x.turn ≡ turn_of g.frame
    judged c g (V.Good track) e = absurd (let no : None ≡ Some x = e in cc)
    judged c g V.BadOpening e = absurd (let no : None ≡ Some x = e in cc)
    judged c g (V.Illegal fault) e = let same : illegal_clash c g ≡ x = cc in ap (λ (k : Finding). k.turn) (sym same)

    opened : (before : Option Received) (g : Received) (o : Opening) → illegal_in (reveal_step game at.track before g o) ≡ Some x → x.turn ≡ turn_of g.frame
    opened None g o e = absurd (let no : None ≡ Some x = e in cc)
    opened (Some c) g o e = judged c g _ e

    framed : (g : Received) (f : TurnFrame) → illegal_in (frame_step game at.track (slot ss (2 * at.resolved)) g f) ≡ Some x → x.turn ≡ turn_of g.frame
    framed g (Commit p t d) e = absurd (let no : None ≡ Some x = e in cc)
    framed g (Reveal p t m n) e = opened (slot ss (2 * at.resolved)) g _ e

    revealed : (o : Option Received) → slot ss (2 * at.resolved + 1) ≡ o → illegal_in (slot_step game at.track (slot ss (2 * at.resolved)) o) ≡ Some x → (x.turn ≡ at.resolved) × (2 * at.resolved + 1 < length ss)
    revealed None i e = absurd (let no : None ≡ Some x = e in cc)
    revealed (Some g) i e =
        let near = turn_at g.frame in
        let low = near.0 in
        let high = near.1 in
        let own = (w.own (2 * at.resolved + 1) g i).0 in
        let turn = framed g g.frame e in
        (omega arith, some_within ss (2 * at.resolved + 1) g i)

-- the first clash, with a frame in the empty slot of its place
pub held_clash : (game : Game) (q : ℕ) (ss : List (Option Received)) (at to : Stream) (r : Received) → IsSession game → IsHeld game q ss at → first_clash game q (in_order ss) ≡ None → slot_of r.frame < length ss →
    AllBefore r.entry (in_order ss) → IsHeld game q (set ss (slot_of r.frame) (Some r)) to →
    lower_clash (opening_clash game q (slot ss (other_slot r.frame)) r) (illegal_at game (set ss (slot_of r.frame) (Some r)) to) ≡ first_clash game q (in_order (set ss (slot_of r.frame) (Some r)))
unfolding first_clash
held_clash game q ss at to r is h clean lt later all = go (opening_clash game q (slot ss (other_slot r.frame)) r) refl (illegal_at game (set ss (slot_of r.frame) (Some r)) to) refl
  where
    value : (t : ℕ) → clash_in game q (in_order (set ss (slot_of r.frame) (Some r))) t
        ≡ option_or (pair_clash game q t (slot (set ss (slot_of r.frame) (Some r)) (2 * t)) (slot (set ss (slot_of r.frame) (Some r)) (2 * t + 1))) (end_clash t to.resolved (illegal_at game (set ss (slot_of r.frame) (Some r)) to))
    value t = turn_value game q t (set ss (slot_of r.frame) (Some r)) to is all

    opening : opening_clash game q (slot ss (other_slot r.frame)) r
        ≡ pair_clash game q (turn_of r.frame) (slot (set ss (slot_of r.frame) (Some r)) (2 * turn_of r.frame)) (slot (set ss (slot_of r.frame) (Some r)) (2 * turn_of r.frame + 1))
    opening = opening_pair game q ss r r.frame refl lt later

    no_pairs : opening_clash game q (slot ss (other_slot r.frame)) r ≡ None → (t : ℕ) → t < game.turns → pair_clash game q t (slot (set ss (slot_of r.frame) (Some r)) (2 * t)) (slot (set ss (slot_of r.frame) (Some r)) (2 * t + 1)) ≡ None
    no_pairs e t le = elim (cases_eq t (turn_of r.frame)) [
      | inl same ↦
          ap (λ (n : ℕ). pair_clash game q n (slot (set ss (slot_of r.frame) (Some r)) (2 * n)) (slot (set ss (slot_of r.frame) (Some r)) (2 * n + 1))) same ∙ sym opening ∙ e
      | inr apart ↦ elsewhere game q t ss at r is h clean le apart
    ]

    -- a turn of which neither the frames nor the first reveal behind those resolved shows anything
    silent : (t : ℕ) → pair_clash game q t (slot (set ss (slot_of r.frame) (Some r)) (2 * t)) (slot (set ss (slot_of r.frame) (Some r)) (2 * t + 1)) ≡ None → (t ≡ to.resolved → illegal_at game (set ss (slot_of r.frame) (Some r)) to ≡ None) →
        clash_in game q (in_order (set ss (slot_of r.frame) (Some r))) t ≡ None
    silent t pair end =
        value t ∙ ap (λ (o : Option Finding). option_or o (end_clash t to.resolved (illegal_at game (set ss (slot_of r.frame) (Some r)) to))) pair
        ∙ sym (end_none t to.resolved (illegal_at game (set ss (slot_of r.frame) (Some r)) to) end)

    turn_within : turn_of r.frame < game.turns
    turn_within = let low = (turn_at r.frame).0 in let places = h.places in omega arith

    by_opening : (y : Finding) → opening_clash game q (slot ss (other_slot r.frame)) r ≡ Some y → ((t : ℕ) → t < turn_of r.frame → t ≡ to.resolved → illegal_at game (set ss (slot_of r.frame) (Some r)) to ≡ None) →
        Some y ≡ first_of (clash_in game q (in_order (set ss (slot_of r.frame) (Some r)))) (range_with_len 0 game.turns)
    by_opening y e before =
        let within = turn_within in
        sym (range_at (clash_in game q (in_order (set ss (slot_of r.frame) (Some r)))) 0 game.turns (turn_of r.frame) y (omega arith) (omega arith)
        (λ t le below. silent t (elsewhere game q t ss at r is h clean (omega arith) (λ k. omega arith)) (before t below))
        (value (turn_of r.frame) ∙ ap (λ (o : Option Finding). option_or o (end_clash (turn_of r.frame) to.resolved (illegal_at game (set ss (slot_of r.frame) (Some r)) to))) (sym opening ∙ e)))

    by_move : (x : Finding) → illegal_at game (set ss (slot_of r.frame) (Some r)) to ≡ Some x →
        ((t : ℕ) → t ≤ to.resolved → t < game.turns → pair_clash game q t (slot (set ss (slot_of r.frame) (Some r)) (2 * t)) (slot (set ss (slot_of r.frame) (Some r)) (2 * t + 1)) ≡ None) →
        Some x ≡ first_of (clash_in game q (in_order (set ss (slot_of r.frame) (Some r)))) (range_with_len 0 game.turns)
    by_move x f pairs =
        let here = (illegal_turn game q (set ss (slot_of r.frame) (Some r)) to x all.slots f).1 in
        let places = all.places in
        let within : to.resolved < game.turns = omega arith in
        sym (range_at (clash_in game q (in_order (set ss (slot_of r.frame) (Some r)))) 0 game.turns to.resolved x (omega arith) (omega arith)
        (λ t le below. silent t (pairs t (omega arith) (omega arith)) (λ k. absurd (omega arith)))
        (value to.resolved ∙ ap (λ (o : Option Finding). option_or o (end_clash to.resolved to.resolved (illegal_at game (set ss (slot_of r.frame) (Some r)) to))) (pairs to.resolved (omega arith) within)
        ∙ end_here to.resolved (illegal_at game (set ss (slot_of r.frame) (Some r)) to) ∙ f))

    go : (o : Option Finding) → opening_clash game q (slot ss (other_slot r.frame)) r ≡ o → (i : Option Finding) → illegal_at game (set ss (slot_of r.frame) (Some r)) to ≡ i →
        lower_clash o i ≡ first_of (clash_in game q (in_order (set ss (slot_of r.frame) (Some r)))) (range_with_len 0 game.turns)
    go (Some y) e None f = by_opening y e (λ t below n. f)
    go None e None f = sym (none_range (clash_in game q (in_order (set ss (slot_of r.frame) (Some r)))) 0 game.turns (λ t le below. silent t (no_pairs e t (omega arith)) (λ n. f)))
    go None e (Some x) f = by_move x f (λ t le below. no_pairs e t below)
    go (Some y) e (Some x) f = by_turn (nat_lt x.turn y.turn) refl
      where
        by_turn : (b : Bool) → nat_lt x.turn y.turn ≡ b → (if b then Some x else Some y) ≡ first_of (clash_in game q (in_order (set ss (slot_of r.frame) (Some r)))) (range_with_len 0 game.turns)
        by_turn true k =
            let below = ltb-true x.turn y.turn k in
            let a = opening_turn game q (slot ss (other_slot r.frame)) r y e in
            let b = (illegal_turn game q (set ss (slot_of r.frame) (Some r)) to x all.slots f).0 in
            by_move x f (λ t le lt. elsewhere game q t ss at r is h clean lt (λ n. omega arith))
        by_turn false k =
            let above = ltb-false x.turn y.turn k in
            let a = opening_turn game q (slot ss (other_slot r.frame)) r y e in
            let b = (illegal_turn game q (set ss (slot_of r.frame) (Some r)) to x all.slots f).0 in
            by_opening y e (λ t below n. absurd (omega arith))

-- the answer to it
pub held_answer : (game : Game) (q at_slot : ℕ) (ss : List (Option Received)) (at to : Stream) (r : Received) (opening illegal found : Option Finding) (other : Option Received) (answer : Offer) (next : Bool) → IsSession game → IsHeld game q ss at →
    first_clash game q (in_order ss) ≡ None → slot_of r.frame < length ss → AllBefore r.entry (in_order ss) → at_slot ≡ slot_of r.frame → IsHeld game q (set ss at_slot (Some r)) to →
    other ≡ slot ss (other_slot r.frame) → opening ≡ opening_clash game q other r → illegal ≡ illegal_at game (set ss at_slot (Some r)) to → found ≡ lower_clash opening illegal → answer ≡ new_answer found next →
    answer ≡ new_answer (first_clash game q (in_order (set ss at_slot (Some r)))) next
held_answer game q at_slot ss at to r opening illegal found other answer next is h clean lt later is_slot all other_is opening_is illegal_is found_is answer_is =
    let P : ℕ → Type 0 = λ n. IsHeld game q (set ss n (Some r)) to in
    let clash = held_clash game q ss at to r is h clean lt later (subst P is_slot all) in
    answer_is
    ∙ ap (λ (o : Option Finding). new_answer o next)
    (found_is ∙ ap (λ (o : Option Finding). lower_clash o illegal) (opening_is ∙ ap (λ (o : Option Received). opening_clash game q o r) other_is)
    ∙ ap (lower_clash (opening_clash game q (slot ss (other_slot r.frame)) r)) (illegal_is ∙ ap (λ (n : ℕ). illegal_at game (set ss n (Some r)) to) is_slot) ∙ clash)
    ∙ ap (λ (n : ℕ). new_answer (first_clash game q (in_order (set ss n (Some r)))) next) (sym is_slot)
