-- ForPeers: what a peer's log of entries says of its owner's own stream, and how it grows.
use Rattle.std.proofs.Common.{List, None, Some, [], ap, append_assoc, arith, length, refl, subst, sym, true, false, zero-add, zero, suc, suc-add, inl, inr, ℕ, ◌*◌, ◌++◌, ◌+◌, ◌-◌, ◌<◌, ◌∙◌, ◌∷◌, ◌≡◌, ◌≤◌, Bool, Option, slice_get, take}
use Rattle.std.specs.Prelude.{cond, nat_lt, if◌then◌else◌, find, map, min, ◌/◌, ◌==◌, ◌⊎◌, flat_map, filter_map}
use Rattle.std.specs.List.{range_with_len}
use Rattle.std.proofs.lemmas.List.{take-map}
use Rattle.std.proofs.lemmas.Option.{slice_get_within}
use Rattle.std.proofs.lemmas.Bool.{ne_eqb, cases_lt, and_from, and_parts, cond-true, cond-false, eqb-true}
use Rattle.definitions.specs.declared.world.Move.{Move}
use Rattle.definitions.specs.declared.openings.Digest.{Digest}
use Rattle.definitions.specs.declared.openings.Opening.{Opening}
use Rattle.definitions.specs.declared.frames.TurnFrame.{TurnFrame}
use Rattle.definitions.specs.declared.frames.TurnFrame.TheVariants.{Commit, Reveal}
use Rattle.definitions.specs.declared.frames.What.{What}
use Rattle.definitions.specs.declared.frames.What.TheVariants as W
use Rattle.definitions.specs.declared.openings.Nonce.{Nonce}
use Rattle.definitions.specs.declared.logs.Entry.{Entry}
use Rattle.definitions.specs.declared.logs.Entry.TheVariants.{Chose, Got, Made}
use Rattle.definitions.specs.World.{Game, players_of}
use Rattle.definitions.specs.declared.findings.Kind.{Kind}
use Rattle.definitions.specs.declared.findings.Finding.{Finding}
use Rattle.definitions.specs.Openings.{commitment}
use Rattle.definitions.specs.declared.places.Slot.{Slot}
use Rattle.definitions.specs.Places.{commit_place, reveal_place, slot_at}
use Rattle.definitions.specs.Logs.{chosen, chosen_in, got_of, made, player_of, turn_of}
use Rattle.definitions.specs.Held.{Known, held, held_count, known, known_to, next_known, next_place, places_in, resolved, resolved_count}
use Rattle.definitions.specs.Findings.{findings, findings_in, finding_at, is_clean, kinds}
use Rattle.definitions.specs.Answers.{place_of}
use Rattle.definitions.specs.Honest.{IsHonest, allowed, allows, allows_frame, chosen_for, honest_from, made_count}
use Rattle.definitions.specs.Advance.{advance, advance_by, frame_at, frame_chosen, if_allowed, next_made, with_made}
use Rattle.definitions.proofs.Streams.{slot_at-commit, slot_at-reveal}
use Rattle.definition_laws.proofs.Listing.{append_nil, flat_map_append, slice_get_push}
use Rattle.definition_laws.proofs.Order.{IsOrderly}
use Rattle.definition_laws.proofs.Chosen.{find_chosen, chosen_at, made_count_push, made_push}
use Rattle.definition_laws.proofs.OwnStream.{IsOwn, length_own}
use Rattle.definition_laws.proofs.OwnLog.{own_honest, known_own, next_place_own, chosen_for_at}
use Rattle.definition_laws.proofs.Permits.{honest_from_push}
use Rattle.definition_laws.proofs.Advances.{advance_by_ends, advance_by_still, next_made_past}
use Rattle.definition_laws.proofs.Innocent.{innocent, Conforms}
use Rattle.definitions.specs.Lists.{EachIs, is_empty}
use Rattle.definitions.proofs.Slots.{slot_at_commit_is, slot_at_reveal_is}
use Rattle.definition_laws.proofs.Alike.{commits_to_some, reveals_of_some}

-- how many commitments and reveals of the owner are there, and that what it chose is one opening more at most
pub record OwnCounts (game : Game) (me : ℕ) (h : List Entry) : Type 0 where
  pub sum : held_count game me h me + resolved_count game me h me ≡ made_count h
  pub before : resolved_count game me h me ≤ held_count game me h me
  pub orderly : IsOrderly game (held_count game me h me) (resolved_count game me h me)
  pub enough : held_count game me h me ≤ length (chosen me h)
  pub ready : length (chosen me h) ≤ held_count game me h me + 1
  pub few : length (chosen me h) ≤ game.turns

own_held : (game : Game) (me : ℕ) (h : List Entry) → 1 ≤ game.ahead → (w : IsOwn game me (made h) (chosen me h)) → held_count game me h me ≡ w.c
own_held game me h d w =
    let enough = w.enough in
    ap (λ (k : Known). length k.digests) (known_own game me h d w) ∙ length_own (commitment game.id) w.c (chosen me h) (omega arith)

own_resolved : (game : Game) (me : ℕ) (h : List Entry) → 1 ≤ game.ahead → (w : IsOwn game me (made h) (chosen me h)) → resolved_count game me h me ≡ w.r
own_resolved game me h d w =
    let enough = w.enough in
    let before = w.before in
    ap (λ (k : Known). length k.moves) (known_own game me h d w) ∙ length_own (λ o. o.mv) w.r (chosen me h) (omega arith)

pub own_counts : (game : Game) (me : ℕ) (h : List Entry) → 1 ≤ game.ahead → IsHonest game me h → OwnCounts game me h
own_counts game me h d i =
    let w = own_honest game me h d i in
    let c = own_held game me h d w in
    let r = own_resolved game me h d w in
    let n = w.counted in
    let before = w.before in
    let enough = w.enough in
    let ready = w.ready in
    record {
      sum = omega arith;
      before = omega arith;
      orderly = subst (λ (u : ℕ). IsOrderly game u (resolved_count game me h me)) (sym c) (subst (λ (u : ℕ). IsOrderly game w.c u) (sym r) w.orderly);
      enough = omega arith;
      ready = omega arith;
      few = w.few;
    }

-- the owner's own resolved moves are the first that it chose
pub own_moves : (game : Game) (me : ℕ) (h : List Entry) → 1 ≤ game.ahead → IsHonest game me h →
    (known game me h me).moves ≡ take (resolved_count game me h me) (map (λ o. o.mv) (chosen me h))
own_moves game me h d i =
    let w = own_honest game me h d i in
    ap (λ (k : Known). k.moves) (known_own game me h d w) ∙ sym (take-map (λ o. o.mv) w.r (chosen me h))
    ∙ ap (λ (n : ℕ). take n (map (λ o. o.mv) (chosen me h))) (sym (own_resolved game me h d w))

-- the owner's own digests are the commitments to the first openings that it chose
pub own_digests : (game : Game) (me : ℕ) (h : List Entry) → 1 ≤ game.ahead → IsHonest game me h →
    (known game me h me).digests ≡ take (held_count game me h me) (map (commitment game.id) (chosen me h))
own_digests game me h d i =
    let w = own_honest game me h d i in
    ap (λ (k : Known). k.digests) (known_own game me h d w) ∙ sym (take-map (commitment game.id) w.c (chosen me h))
    ∙ ap (λ (n : ℕ). take n (map (commitment game.id) (chosen me h))) (sym (own_held game me h d w))

-- the owner's next place is the number of its made frames
pub own_next : (game : Game) (me : ℕ) (h : List Entry) → 1 ≤ game.ahead → IsHonest game me h → next_place game me h me ≡ made_count h
own_next = next_place_own

-- one turn ahead, every second frame is a reveal
pub own_counts_plain : (game : Game) (me : ℕ) (h : List Entry) → game.ahead ≡ 1 → IsHonest game me h →
    (resolved_count game me h me ≡ made_count h / 2) × (held_count game me h me ≡ (made_count h + 1) / 2)
own_counts_plain game me h one i =
    let w = own_counts game me h (omega arith) i in
    let n = w.sum in
    let before = w.before in
    let o = w.orderly in
    let within = o.within in
    (omega arith, omega arith)

-- the opening at a place was chosen by the owner for the turn of that number
pub chosen_item : (game : Game) (me t : ℕ) (h : List Entry) (o : Opening) → 1 ≤ game.ahead → IsHonest game me h → slice_get (chosen me h) t ≡ Some o →
    (o.player ≡ me) × (o.turn ≡ t)
chosen_item game me t h o d i e =
    let w = own_honest game me h d i in
    let at = chosen_at me 0 t (chosen me h) o w.chosen_are e in
    (at.0, at.1 ∙ zero-add t)

-- what was chosen for a turn is the opening of that number
pub chosen_for_item : (game : Game) (me t : ℕ) (h : List Entry) → 1 ≤ game.ahead → IsHonest game me h → chosen_for me h t ≡ slice_get (chosen me h) t
chosen_for_item game me t h d i =
    let w = own_honest game me h d i in
    ap (λ n. find (λ o. o.turn == n) (chosen me h)) (sym (zero-add t)) ∙ find_chosen me 0 t (chosen me h) w.chosen_are

-- an entry that is allowed keeps a log honest
pub honest_push : (game : Game) (me : ℕ) (h : List Entry) (e : Entry) → IsHonest game me h → allowed game me h e ≡ true → IsHonest game me (h ++ e ∷ [])
honest_push game me h e i a = honest_from_push game me h e ∙ and_from _ _ i a

-- the last entry of an honest log was allowed after the honest rest
pub honest_last : (game : Game) (me : ℕ) (h : List Entry) (e : Entry) → IsHonest game me (h ++ e ∷ []) → IsHonest game me h × (allowed game me h e ≡ true)
honest_last game me h e i = let both = and_parts _ _ (sym (honest_from_push game me h e) ∙ i) in (both.0, both.1)

-- the log of no entries is honest
pub honest_empty : (game : Game) (me : ℕ) → IsHonest game me []
unfolding honest_from
honest_empty game me = refl

below_both : {a b c : ℕ} → a < b → b ≤ c → a < c
below_both h k = omega arith

-- the same commitment, by its parts
commit_from : (p q t u : ℕ) (d e : Digest) → p ≡ q → t ≡ u → d ≡ e → Some (Commit p t d) ≡ Some (Commit q u e)
commit_from p q t u d e a b c = cc

-- the same reveal, by its parts
some_reveal : (p q t u : ℕ) (m k : Move) (n o : Nonce) → p ≡ q → t ≡ u → m ≡ k → n ≡ o → Some (Reveal p t m n) ≡ Some (Reveal q u k o)
some_reveal p q t u m k n o a b c d = cc

-- a made frame that is allowed is the one that was chosen for the next place
pub allowed_frame : (game : Game) (me : ℕ) (h : List Entry) (f : TurnFrame) → 1 ≤ game.ahead → IsHonest game me h → allowed game me h (Made f) ≡ true →
    frame_at game me h (slot_at game (made_count h)) ≡ Some f
unfolding allows allows_frame
allowed_frame game me h (Commit p t k) d i a =
    let w = own_honest game me h d i in
    let tests = and_parts _ _ (and_parts _ _ a).1 in
    let parts = and_parts _ _ tests.0 in
    let begins = and_parts _ _ parts.0 in
    let o = commits_to_some game (chosen_for me h t) k parts.1 in
    let at = chosen_for_at game me t h o.0 w o.1 in
    let lt : t < game.turns = below_both (slice_get_within (chosen me h) t o.0 at.0) w.few in
    let slot : slot_at game (made_count h) ≡ Some (record { what = W.Commit; turn = t }) =
    ap (slot_at game) (eqb-true _ _ begins.1) ∙ slot_at-commit game t d lt in
    ap (frame_at game me h) slot ∙ ap (frame_chosen game W.Commit) o.1
    ∙ commit_from o.0.player p o.0.turn t (commitment game.id o.0) k (at.1 ∙ sym (eqb-true _ _ begins.0)) at.2 (sym o.2)
allowed_frame game me h (Reveal p t m n) d i a =
    let w = own_honest game me h d i in
    let tests = and_parts _ _ (and_parts _ _ a).1 in
    let parts = and_parts _ _ tests.0 in
    let begins = and_parts _ _ parts.0 in
    let o = reveals_of_some (chosen_for me h t) m n parts.1 in
    let at = chosen_for_at game me t h o.0 w o.1 in
    let lt : t < game.turns = below_both (slice_get_within (chosen me h) t o.0 at.0) w.few in
    let slot : slot_at game (made_count h) ≡ Some (record { what = W.Reveal; turn = t }) =
    ap (slot_at game) (eqb-true _ _ begins.1) ∙ slot_at-reveal game t d lt in
    ap (frame_at game me h) slot ∙ ap (frame_chosen game W.Reveal) o.1
    ∙ some_reveal o.0.player p o.0.turn t o.0.mv m o.0.nonce n (at.1 ∙ sym (eqb-true _ _ begins.0)) at.2 (sym o.2) (sym o.3)

-- the next made frame is the only one that is allowed
pub next_made_only : (game : Game) (me : ℕ) (h : List Entry) (f : TurnFrame) → 1 ≤ game.ahead → IsHonest game me h → allowed game me h (Made f) ≡ true →
    next_made game me h ≡ Some f
unfolding next_made
next_made_only game me h f d i a = ap (if_allowed game me h) (allowed_frame game me h f d i a) ∙ cond-true (allowed game me h (Made f)) (Some f) None a

-- where none is next, none is allowed
pub none_allowed : (game : Game) (me : ℕ) (h : List Entry) (f : TurnFrame) → 1 ≤ game.ahead → IsHonest game me h → next_made game me h ≡ None →
    allowed game me h (Made f) ≡ false
none_allowed game me h f d i none = go (allowed game me h (Made f)) refl
  where
    go : (b : Bool) → allowed game me h (Made f) ≡ b → allowed game me h (Made f) ≡ false
    go false e = e
    go true e = let some = next_made_only game me h f d i e in cc

-- what is made for a place is its owner's, of that place, and of a turn of the session
pub frame_at_place : (game : Game) (me n : ℕ) (h : List Entry) (f : TurnFrame) → 1 ≤ game.ahead → IsHonest game me h → frame_at game me h (slot_at game n) ≡ Some f →
    (place_of game f ≡ n) × (player_of f ≡ me) × (turn_of f < game.turns)
unfolding place_of
frame_at_place game me n h f d i e = go (slot_at game n) refl e
  where
    w : IsOwn game me (made h) (chosen me h)
    w = own_honest game me h d i

    of_commit : (t : ℕ) → slot_at game n ≡ Some (record { what = W.Commit; turn = t }) → (o : Option Opening) → chosen_for me h t ≡ o → frame_chosen game W.Commit o ≡ Some f →
        (place_of game f ≡ n) × (player_of f ≡ me) × (turn_of f < game.turns)
    of_commit t s None c k = absurd (let none : None ≡ Some f = k in cc)
    of_commit t s (Some o) c k =
        let same : Commit o.player o.turn (commitment game.id o) ≡ f = cc in
        let at = chosen_for_at game me t h o w c in
        let place = slot_at_commit_is game n t s in
        let lt = place.0 in
        subst (λ (g : TurnFrame). (place_of game g ≡ n) × (player_of g ≡ me) × (turn_of g < game.turns)) same
        (ap (commit_place game) at.2 ∙ place.1, at.1, let turn = at.2 in omega arith)

    of_reveal : (t : ℕ) → slot_at game n ≡ Some (record { what = W.Reveal; turn = t }) → (o : Option Opening) → chosen_for me h t ≡ o → frame_chosen game W.Reveal o ≡ Some f →
        (place_of game f ≡ n) × (player_of f ≡ me) × (turn_of f < game.turns)
    of_reveal t s None c k = absurd (let none : None ≡ Some f = k in cc)
    of_reveal t s (Some o) c k =
        let same : Reveal o.player o.turn o.mv o.nonce ≡ f = cc in
        let at = chosen_for_at game me t h o w c in
        let place = slot_at_reveal_is game n t s in
        let lt = place.0 in
        subst (λ (g : TurnFrame). (place_of game g ≡ n) × (player_of g ≡ me) × (turn_of g < game.turns)) same
        (ap (reveal_place game) at.2 ∙ place.1, at.1, let turn = at.2 in omega arith)

    frame : (v : What) (t : ℕ) → slot_at game n ≡ Some (record { what = v; turn = t }) → frame_chosen game v (chosen_for me h t) ≡ Some f →
        (place_of game f ≡ n) × (player_of f ≡ me) × (turn_of f < game.turns)
    frame W.Commit t s k = of_commit t s (chosen_for me h t) refl k
    frame W.Reveal t s k = of_reveal t s (chosen_for me h t) refl k

    go : (s : Option Slot) → slot_at game n ≡ s → frame_at game me h s ≡ Some f → (place_of game f ≡ n) × (player_of f ≡ me) × (turn_of f < game.turns)
    go None s k = absurd (let none : None ≡ Some f = k in cc)
    go (Some s) is k = frame s.what s.turn is k

-- what is found stays found in a longer list
find_more : {X : Type 0} (p : X → Bool) (xs ys : List X) (x : X) → find p xs ≡ Some x → find p (xs ++ ys) ≡ Some x
find_more p [] ys x h = absurd (let e : None ≡ Some x = h in cc)
find_more {X} p (y ∷ xs) ys x h = go (p y) h (find_more p xs ys x)
  where
    go : (b : Bool) → cond b (Some y) (find p xs) ≡ Some x → (find p xs ≡ Some x → find p (xs ++ ys) ≡ Some x) → cond b (Some y) (find p (xs ++ ys)) ≡ Some x
    go true h ih = h
    go false h ih = ih h

-- what was chosen for a turn stays chosen
pub chosen_for_later : (me t : ℕ) (g es : List Entry) (o : Opening) → chosen_for me g t ≡ Some o → chosen_for me (g ++ es) t ≡ Some o
unfolding chosen
chosen_for_later me t g es o h =
    ap (find (λ o. o.turn == t)) (flat_map_append (chosen_in me) g es) ∙ find_more (λ o. o.turn == t) (flat_map (chosen_in me) g) (flat_map (chosen_in me) es) o h

-- what is made for a place stays so
pub frame_at_later : (game : Game) (me n : ℕ) (g es : List Entry) (f : TurnFrame) → frame_at game me g (slot_at game n) ≡ Some f → frame_at game me (g ++ es) (slot_at game n) ≡ Some f
frame_at_later game me n g es f e = go (slot_at game n) e
  where
    at : (v : What) (t : ℕ) (o : Option Opening) → chosen_for me g t ≡ o → frame_chosen game v o ≡ Some f → frame_chosen game v (chosen_for me (g ++ es) t) ≡ Some f
    at v t None c k = absurd (let none : None ≡ Some f = k in cc)
    at v t (Some o) c k = ap (frame_chosen game v) (chosen_for_later me t g es o c) ∙ k

    go : (s : Option Slot) → frame_at game me g s ≡ Some f → frame_at game me (g ++ es) s ≡ Some f
    go None k = absurd (let none : None ≡ Some f = k in cc)
    go (Some s) k = at s.what s.turn (chosen_for me g s.turn) refl k

-- each made frame is the one of its place, by what was chosen
abbrev MadeInOrder : Game → ℕ → List Entry → Type 0
MadeInOrder game me g = (k : ℕ) (f : TurnFrame) → slice_get (made g) k ≡ Some f → frame_at game me g (slot_at game k) ≡ Some f

made_step : (game : Game) (me : ℕ) (g : List Entry) (e : Entry) → 1 ≤ game.ahead → IsHonest game me g → allowed game me g e ≡ true → MadeInOrder game me g → MadeInOrder game me (g ++ e ∷ [])
made_step game me g (Chose t m n) d i a w k f h =
    frame_at_later game me k g (Chose t m n ∷ []) f (w k f (ap (λ (fs : List TurnFrame). slice_get fs k) (sym (append_nil (made g)) ∙ sym (made_push g (Chose t m n))) ∙ h))
made_step game me g (Got q x) d i a w k f h =
    frame_at_later game me k g (Got q x ∷ []) f (w k f (ap (λ (fs : List TurnFrame). slice_get fs k) (sym (append_nil (made g)) ∙ sym (made_push g (Got q x))) ∙ h))
made_step game me g (Made x) d i a w k f h =
    frame_at_later game me k g (Made x ∷ []) f (go (slice_get_push (made g) x k f (ap (λ (fs : List TurnFrame). slice_get fs k) (sym (made_push g (Made x))) ∙ h)))
  where
    go : (slice_get (made g) k ≡ Some f) ⊎ ((k ≡ length (made g)) × (x ≡ f)) → frame_at game me g (slot_at game k) ≡ Some f
    go (inl there) = w k f there
    go (inr (at, same)) =
        ap (λ (n : ℕ). frame_at game me g (slot_at game n)) at ∙ allowed_frame game me g x d i a ∙ ap (λ (y : TurnFrame). Some y) same

made_from : (game : Game) (me : ℕ) (g es : List Entry) → 1 ≤ game.ahead → IsHonest game me g → MadeInOrder game me g → honest_from game me g es ≡ true → MadeInOrder game me (g ++ es)
unfolding honest_from
made_from game me g [] d i w h = subst (λ (k : List Entry). MadeInOrder game me k) (sym (append_nil g)) w
made_from game me g (e ∷ es) d i w h =
    let both = and_parts _ _ h in
    subst (λ (k : List Entry). MadeInOrder game me k) (append_assoc g (e ∷ []) es)
    (made_from game me (g ++ e ∷ []) es d (honest_push game me g e i both.0) (made_step game me g e d i both.0 w) both.1)

-- made frame k of an honest log is the frame of place k, by what was chosen for its turn
pub made_item : (game : Game) (me k : ℕ) (h : List Entry) (f : TurnFrame) → 1 ≤ game.ahead → IsHonest game me h → slice_get (made h) k ≡ Some f →
    frame_at game me h (slot_at game k) ≡ Some f
unfolding made
made_item game me k h f d i e = made_from game me [] h d (honest_empty game me) (λ n g e. absurd (let none : None ≡ Some g = e in cc)) i k f e

-- made frame k of an honest log has place k, and is the owner's of a turn of the session
pub made_item_place : (game : Game) (me k : ℕ) (h : List Entry) (f : TurnFrame) → 1 ≤ game.ahead → IsHonest game me h → slice_get (made h) k ≡ Some f →
    (place_of game f ≡ k) × (player_of f ≡ me) × (turn_of f < game.turns)
made_item_place game me k h f d i e = frame_at_place game me k h f d i (made_item game me k h f d i e)

-- a step more changes nothing where none is next
advance_by_more : (game : Game) (me n : ℕ) (h : List Entry) → next_made game me (advance_by game me n h) ≡ None → advance_by game me (suc n) h ≡ advance_by game me n h
unfolding advance_by
advance_by_more game me zero h e = ap (with_made h) e
advance_by_more game me (suc n) h e = advance_by_more game me n (with_made h (next_made game me h)) e

advance_by_further : (game : Game) (me k n : ℕ) (h : List Entry) → next_made game me (advance_by game me n h) ≡ None → advance_by game me (k + n) h ≡ advance_by game me n h
advance_by_further game me zero n h e = ap (λ (m : ℕ). advance_by game me m h) (zero-add n)
advance_by_further game me (suc k) n h e =
    let ih = advance_by_further game me k n h e in
    ap (λ (m : ℕ). advance_by game me m h) (suc-add k n) ∙ advance_by_more game me (k + n) h (ap (next_made game me) ih ∙ e) ∙ ih

-- as many steps as there are places left are enough
pub advance_enough : (game : Game) (me n : ℕ) (h : List Entry) → 1 ≤ game.ahead → 2 * game.turns ≤ made_count h + n → advance_by game me n h ≡ advance game me h
unfolding advance
advance_enough game me n h d le = go (cases_lt n (2 * game.turns))
  where
    go : (n < 2 * game.turns) ⊎ (2 * game.turns ≤ n) → advance_by game me n h ≡ advance_by game me (2 * game.turns) h
    go (inl lt) =
        let e : 2 * game.turns - n + n ≡ 2 * game.turns = omega arith in
        sym (advance_by_further game me (2 * game.turns - n) n h (advance_by_ends game me n h d le)) ∙ ap (λ (m : ℕ). advance_by game me m h) e
    go (inr ge) =
        let e : n - 2 * game.turns + 2 * game.turns ≡ n = omega arith in
        ap (λ (m : ℕ). advance_by game me m h) (sym e) ∙ advance_by_further game me (n - 2 * game.turns) (2 * game.turns) h (advance_by_ends game me (2 * game.turns) h d (omega arith))

-- a log with a next made frame advances to where it does with that frame
pub advance_step : (game : Game) (me : ℕ) (h : List Entry) (f : TurnFrame) → 1 ≤ game.ahead → next_made game me h ≡ Some f →
    advance game me h ≡ advance game me (h ++ Made f ∷ [])
unfolding advance advance_by
advance_step game me h f d e = go (2 * game.turns) refl
  where
    go : (n : ℕ) → 2 * game.turns ≡ n → advance_by game me (2 * game.turns) h ≡ advance_by game me (2 * game.turns) (h ++ Made f ∷ [])
    go zero z = absurd (let none = next_made_past game me h d (omega arith) in let some : None ≡ Some f = sym none ∙ e in cc)
    go (suc n) z =
        let more = made_count_push h f in
        ap (λ (m : ℕ). advance_by game me m h) z ∙ one n
        ∙ advance_enough game me n (h ++ Made f ∷ []) d (omega arith)
      where
        one : (n : ℕ) → advance_by game me (suc n) h ≡ advance_by game me n (h ++ Made f ∷ [])
        one n = ap (λ (o : Option TurnFrame). advance_by game me n (with_made h o)) e

-- a log with no next made frame stays as it is
pub advance_still : (game : Game) (me : ℕ) (h : List Entry) → next_made game me h ≡ None → advance game me h ≡ h
unfolding advance
advance_still game me h e = advance_by_still game me (2 * game.turns) h e

flat_map_none : {X Y : Type 0} (f : X → List Y) (xs : List X) → ((x : X) → f x ≡ []) → flat_map f xs ≡ []
flat_map_none f [] h = refl
flat_map_none f (x ∷ xs) h = rw (h x) (flat_map_none f xs h)

-- logs that got no frame of a player have no finding of it
no_finding_of : (game : Game) (q t : ℕ) (h : List Entry) (kind : Kind) → got_of q h ≡ [] → finding_at game (h ∷ []) q t kind ≡ None
no_finding_of game q t h kind none =
    innocent game q t [] (h ∷ []) kind refl (subst (λ (fs : List TurnFrame). EachIs (Conforms game []) fs) (sym none) tt, tt)

-- a log that got no frame of anyone is clean
pub clean_without_got : (game : Game) (h : List Entry) → ((q : ℕ) → got_of q h ≡ []) → is_clean game h ≡ true
unfolding is_clean findings findings_in
clean_without_got game h none =
    ap (is_empty {X = Finding}) (flat_map_none (λ q. flat_map (λ t. filter_map (finding_at game (h ∷ []) q t) kinds) (range_with_len 0 game.turns)) (range_with_len 0 (players_of game))
    (λ q. flat_map_none (λ t. filter_map (finding_at game (h ∷ []) q t) kinds) (range_with_len 0 game.turns)
    (λ t. λ i. filter_map (λ kind. no_finding_of game q t h kind (none q) i) kinds)))

pub known_of_none : (game : Game) (q n : ℕ) → known_to game q [] n ≡ record { digests = []; moves = [] }
unfolding known_to next_known
known_of_none game q zero = refl
known_of_none game q (suc n) =
    let k : Known = record { digests = []; moves = [] } in
    ap (next_known game q []) (known_of_none game q n) ∙ stays (nat_lt 0 (min (0 + game.ahead) game.turns)) (nat_lt 0 game.turns)
  where
    stays : (x y : Bool) → (let k : Known = record { digests = []; moves = [] } in if x then k else if y then k else k) ≡ record { digests = []; moves = [] }
    stays true y = refl
    stays false true = refl
    stays false false = refl

-- of another player of whom no frame was got nothing is known
pub known_without_got : (game : Game) (me q : ℕ) (h : List Entry) → (q ≡ me → ⊥) → got_of q h ≡ [] → known game me h q ≡ record { digests = []; moves = [] }
unfolding known
known_without_got game me q h other none =
    ap (λ (fs : List TurnFrame). known_to game q fs (2 * game.turns)) (cond-false (q == me) _ _ (ne_eqb q me other) ∙ none)
    ∙ known_of_none game q (2 * game.turns)

-- nothing is held or resolved of such a player, and its first place is next
pub next_without_got : (game : Game) (me q : ℕ) (h : List Entry) → (q ≡ me → ⊥) → got_of q h ≡ [] →
    (next_place game me h q ≡ 0) × (held_count game me h q ≡ 0) × (resolved_count game me h q ≡ 0)
next_without_got game me q h other none =
    let k = known_without_got game me q h other none in
    (ap places_in k, ap (λ (l : Known). length l.digests) k, ap (λ (l : Known). length l.moves) k)

pub held_without_got : (game : Game) (me q t : ℕ) (h : List Entry) → (q ≡ me → ⊥) → got_of q h ≡ [] → held game me h q t ≡ None
held_without_got game me q t h other none = ap (λ (l : Known). slice_get l.digests t) (known_without_got game me q h other none)

pub resolved_without_got : (game : Game) (me q t : ℕ) (h : List Entry) → (q ≡ me → ⊥) → got_of q h ≡ [] → resolved game me h q t ≡ None
resolved_without_got game me q t h other none = ap (λ (l : Known). slice_get l.moves t) (known_without_got game me q h other none)
