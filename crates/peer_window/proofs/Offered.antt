-- Offered: what an offer does with a window that is still open.
use Rattle.std.proofs.Common.{◌≡◌, ℕ, ◌+◌, ◌<◌, List, [], ◌∷◌, ◌++◌, append-nil, length, length-set, take, drop, set, refl, Bool, true, false, sym, ◌∙◌, ap, subst, arith, Option, Some, None, ◌*◌}
use Rattle.std.specs.Prelude.{◌==◌, ◌||◌, nat_le, nat_lt, option_to_list}
use Rattle.std.proofs.lemmas.Bool.{false≢true, leb-false}
use Rattle.std.proofs.lemmas.List.{drop_all, take_all}
use Rattle.std.specs.List.{list_any}
use Rattle.plain_lemmas.proofs.Lists.{some_within}
use Rattle.definitions.specs.declared.frames.TurnFrame.{TurnFrame}
use Rattle.definitions.specs.declared.frames.TurnFrame.TheVariants.{Commit, Reveal}
use Rattle.definitions.specs.World.{Game}
use Rattle.definitions.specs.Lists.{EachIs}
use Rattle.definitions.specs.Logs.{frame_eq, player_of}
use Rattle.definitions.specs.Held.{digest_of, places_in}
use Rattle.definitions.specs.Answers as A
use Rattle.grid_world.specs.Sessions.{IsSession}
use Rattle.peer_window.specs.declared.received.Received.{Received}
use Rattle.definitions.specs.declared.findings.Finding.{Finding}
use Rattle.peer_window.specs.declared.received.Offer.{Offer}
use Rattle.peer_window.specs.declared.received.Offer.TheVariants.{Same, Far, Conflict}
use Rattle.grid_world.specs.declared.streams.Stream.{Stream}
use Rattle.peer_window.specs.Clashes.{first_clash, rival_clash, same_digest}
use Rattle.peer_window.specs.Slots.{in_order, other_slot, slot_of, shown, slot}
use Rattle.peer_window.specs.Windows.{AreParts, IsHeld, IsWindow, Seen, answer, frames_after, is_far, is_same, new_answer, seen_of, with_frame}
use Rattle.peer_window.proofs.Answered.{after_new, answer_far, answer_new, answer_same, frames_alone, frames_joined, placed_slot, same_not_there, same_there, window_clean, window_held}
use Rattle.peer_window.proofs.Clashing.{pair_same}
use Rattle.peer_window.proofs.Holding.{pairs_agree}
use Rattle.peer_window.proofs.Lookups.{count_places}
use Rattle.peer_window.proofs.Ordered.{AllBefore, in_order_set}
use Rattle.peer_window.proofs.Pairs.{digest_sym}
use Rattle.peer_window.proofs.Rivals.{rival_known}
use Rattle.peer_window.proofs.Rivalry.{rival_first_clash}
use Rattle.peer_window.proofs.Turns.{pair_clash}
use Rattle.definitions.specs.declared.limits.TheConstants.{WINDOW}

-- a window that is open still, in its parts
pub record IsOpen (game : Game) (w : Seen) (ss : List (Option Received)) (rival : Option Received) (closed : Bool) (at : Stream) (entry : ℕ) : Type 0 where
  pub view : seen_of w.player ss rival closed at ≡ w
  pub held : IsHeld game w.player ss at
  pub clean : first_clash game w.player (in_order ss) ≡ None
  pub alone : rival ≡ None
  pub later : AllBefore entry (in_order ss)

pub opened : (game : Game) (w : Seen) (q : ℕ) (ss : List (Option Received)) (rival : Option Received) (closed : Bool) (at : Stream) (entry : ℕ) → seen_of q ss rival closed at ≡ w → IsWindow game w → w.closed ≡ false →
    EachIs (λ r. r.entry < entry) w.frames → AreParts q ss rival closed at → IsOpen game w ss rival closed at entry
opened game w q ss rival closed at entry view window still later parts =
    let P : Seen → Type 0 = λ x. IsWindow game x in
    let player : q ≡ w.player = ap (λ (x : Seen). x.player) view in
    let on_view = subst P (sym view) window in
    let shut : closed ≡ false = ap (λ (x : Seen). x.closed) view ∙ still in
    let alone = parts.alone shut in
    let Q : ℕ → Type 0 = λ n. IsHeld game n ss at in
    let R : List Received → Type 0 = λ rs. AllBefore entry rs in
    record {
      view = ap (λ (n : ℕ). seen_of n ss rival closed at) (sym player) ∙ view;
      held = subst Q player (window_held game q ss rival closed at alone parts.slots on_view);
      clean = ap (λ (n : ℕ). first_clash game n (in_order ss)) (sym player) ∙ window_clean game q ss rival closed at alone shut on_view;
      alone = alone;
      later = subst R (sym (ap (λ (x : Seen). x.frames) view) ∙ frames_alone ss rival alone) later;
    }

-- the test of a far frame, at the window
far_of : (game : Game) (w : Seen) (ss : List (Option Received)) (rival : Option Received) (closed : Bool) (at : Stream) (r : Received) (far : Bool) → IsOpen game w ss rival closed at r.entry → far ≡ A.is_beyond game (at.commits + at.resolved) r.frame → is_far game w r.frame ≡ far
far_of game w ss rival closed at r far o test =
    ap (λ (x : Seen). is_far game x r.frame) (sym o.view) ∙ ap (λ (n : ℕ). A.is_beyond game n r.frame) (sym (count_places w.player at.commits at.resolved ss (shown ss at.commits at.resolved) refl o.held.slots)) ∙ sym test

pub offer_far : (game : Game) (w : Seen) (ss : List (Option Received)) (rival : Option Received) (closed : Bool) (at : Stream) (r : Received) (far : Bool) → IsOpen game w ss rival closed at r.entry →
    far ≡ A.is_beyond game (at.commits + at.resolved) r.frame → far ≡ true → Far ≡ answer game w r
offer_far game w ss rival closed at r far o test holds = answer_far game w r (far_of game w ss rival closed at r far o test ∙ holds)

same_of : (game : Game) (w : Seen) (ss : List (Option Received)) (rival : Option Received) (closed : Bool) (at : Stream) (r : Received) (b : Bool) → IsOpen game w ss rival closed at r.entry →
    list_any (λ x. frame_eq x.frame r.frame) (in_order ss) ≡ b → is_same w r.frame ≡ b
same_of game w ss rival closed at r b o e = ap (λ (x : Seen). is_same x r.frame) (sym o.view) ∙ ap (list_any (λ x. frame_eq x.frame r.frame)) (frames_alone ss rival o.alone) ∙ e

pub offer_same : (game : Game) (w : Seen) (ss : List (Option Received)) (rival : Option Received) (closed : Bool) (at : Stream) (r h : Received) (place : ℕ) (far same : Bool) → IsSession game → IsOpen game w ss rival closed at r.entry →
    place ≡ slot_of r.frame → far ≡ A.is_beyond game (at.commits + at.resolved) r.frame → far ≡ false → Some h ≡ slot ss place → same ≡ frame_eq h.frame r.frame → same ≡ true → Same ≡ answer game w r
offer_same game w ss rival closed at r h place far same is o place_is test fails there is_same holds =
    answer_same game w r (far_of game w ss rival closed at r far o test ∙ fails) (same_of game w ss rival closed at r true o (same_there ss place h r.frame (sym there) (sym is_same ∙ holds)))

or_parts : (a b : Bool) → false ≡ (a || b) → (a ≡ false) × (b ≡ false)
or_parts false b e = (refl, sym e)
or_parts true b e = absurd (false≢true e)

-- a frame that is not far has a slot
pub within_slots : (game : Game) (n : ℕ) (ss : List (Option Received)) (f : TurnFrame) (far : Bool) → length ss ≡ 2 * game.turns → far ≡ A.is_beyond game n f → far ≡ false → slot_of f < length ss
within_slots game n ss f far places test fails =
    let both = or_parts (nat_lt (n + WINDOW) (A.place_of game f)) (nat_le (2 * game.turns) (A.place_of game f)) (sym fails ∙ test) in
    let lt = leb-false (2 * game.turns) (A.place_of game f) both.1 in
    let slots = placed_slot game f lt in
    omega arith

next_test : (game : Game) (w : Seen) (ss : List (Option Received)) (rival : Option Received) (closed : Bool) (at : Stream) (r : Received) → IsOpen game w ss rival closed at r.entry →
    (A.place_of game r.frame == at.commits + at.resolved) ≡ (A.place_of game r.frame == places_in w.known)
next_test game w ss rival closed at r o =
    ap (λ (n : ℕ). A.place_of game r.frame == n) (count_places w.player at.commits at.resolved ss (shown ss at.commits at.resolved) refl o.held.slots ∙ ap (λ (x : Seen). places_in x.known) o.view)

pub offer_new : (game : Game) (w : Seen) (ss new : List (Option Received)) (rival : Option Received) (closed : Bool) (at : Stream) (r : Received) (place q : ℕ) (far : Bool) (a : Offer) → IsSession game → IsOpen game w ss rival closed at r.entry →
    place ≡ slot_of r.frame → far ≡ A.is_beyond game (at.commits + at.resolved) r.frame → far ≡ false → None ≡ slot ss place → q ≡ w.player → new ≡ set ss (slot_of r.frame) (Some r) →
    a ≡ new_answer (first_clash game q (in_order new)) (A.place_of game r.frame == at.commits + at.resolved) → a ≡ answer game w r
offer_new game w ss new rival closed at r place q far a is o place_is test fails empty player new_is a_is =
    let lt = within_slots game (at.commits + at.resolved) ss r.frame far o.held.places test fails in
    let none : slot ss (slot_of r.frame) ≡ None = ap (slot ss) (sym place_is) ∙ sym empty in
    let frames : in_order new ≡ with_frame w r =
    ap in_order new_is ∙ in_order_set ss (slot_of r.frame) r lt none o.later ∙ ap (λ (rs : List Received). rs ++ r ∷ []) (sym (frames_alone ss rival o.alone) ∙ ap (λ (x : Seen). x.frames) o.view) in
    answer_new game w r a (far_of game w ss rival closed at r far o test ∙ fails)
    (same_of game w ss rival closed at r false o (same_not_there w.player at.commits at.resolved place ss r.frame o.held.slots place_is (λ g e. absurd (let no : None ≡ Some g = empty ∙ e in cc))))
    (a_is ∙ ap (λ (n : ℕ). new_answer (first_clash game n (in_order new)) (A.place_of game r.frame == at.commits + at.resolved)) player
    ∙ ap (λ (rs : List Received). new_answer (first_clash game w.player rs) (A.place_of game r.frame == at.commits + at.resolved)) frames
    ∙ ap (new_answer (first_clash game w.player (with_frame w r))) (next_test game w ss rival closed at r o))

-- slots that were written through a slice
written_back : (len : ℕ) (ss new : List (Option Received)) → len ≡ length ss → length new ≡ length ss → take len (new ++ drop (length new) ss) ≡ new
written_back len ss new e f = ap (λ (xs : List (Option Received)). take len (new ++ xs)) (drop_all (length new) ss (omega arith)) ∙ ap (take len) (append-nil new) ∙ take_all len new (omega arith)

pub offer_frames : (game : Game) (w : Seen) (ss new : List (Option Received)) (rival : Option Received) (closed : Bool) (at : Stream) (r : Received) (place count : ℕ) (far : Bool) (a : Offer) (clash : Option Finding) (next : Bool) → IsSession game → IsOpen game w ss rival closed at r.entry →
    count ≡ length ss → place ≡ slot_of r.frame → far ≡ A.is_beyond game (at.commits + at.resolved) r.frame → far ≡ false → None ≡ slot ss place → new ≡ set ss (slot_of r.frame) (Some r) → a ≡ new_answer clash next →
    in_order (take count (new ++ drop (length new) ss)) ++ option_to_list rival ≡ frames_after w r a
offer_frames game w ss new rival closed at r place count far a clash next is o count_is place_is test fails empty new_is a_is =
    let lt = within_slots game (at.commits + at.resolved) ss r.frame far o.held.places test fails in
    let none : slot ss (slot_of r.frame) ≡ None = ap (slot ss) (sym place_is) ∙ sym empty in
    ap (λ (xs : List (Option Received)). in_order xs ++ option_to_list rival) (written_back count ss new count_is (ap length new_is ∙ length-set ss (slot_of r.frame) (Some r)) ∙ new_is)
    ∙ ap (λ (x : Option Received). in_order (set ss (slot_of r.frame) (Some r)) ++ option_to_list x) o.alone
    ∙ frames_joined ss rival (slot_of r.frame) r o.alone lt none o.later
    ∙ ap (λ (x : Seen). with_frame x r) o.view ∙ after_new w r clash next a a_is

-- the frame that is held at a place has the digest of the other one of its turn
pub others_agree : (game : Game) (w : Seen) (ss : List (Option Received)) (rival : Option Received) (closed : Bool) (at : Stream) (r h : Received) (place : ℕ) (other : Option Received) (o : Received) → IsSession game → IsOpen game w ss rival closed at r.entry →
    place ≡ slot_of r.frame → Some h ≡ slot ss place → other ≡ slot ss (other_slot r.frame) → other ≡ Some o → same_digest game o h ≡ true
others_agree game w ss rival closed at r h place other o is opened place_is there other_is holds = go r.frame (ap (slot ss) (sym place_is) ∙ sym there) (sym other_is ∙ holds)
  where
    pair : (t : ℕ) (c g : Received) → slot ss (2 * t) ≡ Some c → slot ss (2 * t + 1) ≡ Some g → same_digest game c g ≡ true
    pair t c g e f =
        let within = some_within ss (2 * t) c e in
        let places = opened.held.places in
        pair_same game w.player t c g
        (ap (λ (x : Option Received). pair_clash game w.player t x (Some g)) (sym e) ∙ ap (pair_clash game w.player t (slot ss (2 * t))) (sym f) ∙ pairs_agree game w.player t ss at is opened.held opened.clean (omega arith))

    go : (f : TurnFrame) → slot ss (slot_of f) ≡ Some h → slot ss (other_slot f) ≡ Some o → same_digest game o h ≡ true
    go (Commit p t d) here beside = digest_sym (digest_of game o.frame) (digest_of game h.frame) ∙ pair t h o here beside
    go (Reveal p t m n) here beside = pair t o h beside here

-- beside another frame of its place
pub offer_rival : (game : Game) (w : Seen) (ss : List (Option Received)) (rival : Option Received) (closed : Bool) (at : Stream) (r h : Received) (place q : ℕ) (far same : Bool) (clash : Finding) (other : Option Received) → IsSession game → IsOpen game w ss rival closed at r.entry →
    player_of r.frame ≡ w.player → place ≡ slot_of r.frame → far ≡ A.is_beyond game (at.commits + at.resolved) r.frame → far ≡ false → Some h ≡ slot ss place → same ≡ frame_eq h.frame r.frame → same ≡ false →
    other ≡ slot ss (other_slot r.frame) → q ≡ w.player → clash ≡ rival_clash game q h other r → Conflict clash ≡ answer game w r
offer_rival game w ss rival closed at r h place q far same clash other is o player place_is test fails there is_same apart other_is mine clash_is =
    let lt = within_slots game (at.commits + at.resolved) ss r.frame far o.held.places test fails in
    let here : slot ss (slot_of r.frame) ≡ Some h = ap (slot ss) (sym place_is) ∙ sym there in
    let differ : frame_eq h.frame r.frame ≡ false = sym is_same ∙ apart in
    let found = rival_first_clash game w.player ss at r h is o.held o.clean player lt here differ in
    answer_new game w r (Conflict clash) (far_of game w ss rival closed at r far o test ∙ fails)
    (same_of game w ss rival closed at r false o (same_not_there w.player at.commits at.resolved place ss r.frame o.held.slots place_is (λ g e. let some : Some h ≡ Some g = there ∙ e in let it : h ≡ g = cc in ap (λ (x : Received). frame_eq x.frame r.frame) (sym it) ∙ differ)))
    (ap (λ (x : Option Finding). new_answer x (A.place_of game r.frame == places_in w.known))
    (ap (λ (x : Finding). Some x) (clash_is ∙ ap (λ (n : ℕ). rival_clash game n h other r) mine ∙ ap (λ (x : Option Received). rival_clash game w.player h x r) other_is) ∙ found
    ∙ ap (λ (rs : List Received). first_clash game w.player (rs ++ r ∷ [])) (sym (frames_alone ss rival o.alone) ∙ ap (λ (x : Seen). x.frames) o.view)))

pub rival_window : (game : Game) (w : Seen) (q : ℕ) (ss : List (Option Received)) (rival : Option Received) (closed : Bool) (at : Stream) (r h : Received) (place : ℕ) → IsSession game → IsOpen game w ss rival closed at r.entry → q ≡ w.player →
    place ≡ slot_of r.frame → Some h ≡ slot ss place → IsWindow game (seen_of q ss (Some r) true at)
rival_window game w q ss rival closed at r h place is o player place_is there =
    let here : slot ss (slot_of r.frame) ≡ Some h = ap (slot ss) (sym place_is) ∙ sym there in
    let P : ℕ → Type 0 = λ n. IsWindow game (seen_of n ss (Some r) true at) in
    subst P (sym player) (record {
      player = o.held.player;
      places = o.held.places;
      known = sym (rival_known game w.player ss at r h is o.held o.clean here);
      track = o.held.leads;
      clean = λ e. absurd (false≢true (sym e));
    })
