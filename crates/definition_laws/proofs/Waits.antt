-- Nobody is waited for exactly where the next frame is allowed, and when the owner may choose.
use Rattle.std.specs.Prelude.{Option, find, is_none, nat_lt, slice_get, ◌&&◌, ◌==◌}
use Rattle.std.proofs.Common.{le_refl, Bool, List, None, Some, ap, arith, length, refl, sym, true, zero-add, ℕ, ◌<◌, ◌∙◌, ◌≡◌, ◌≤◌}
use Rattle.std.proofs.lemmas.Bool.{and_from, and_parts, eq-eqb, eqb-true, false≢true, lt-ltb, ltb-true}
use Rattle.std.proofs.lemmas.Option.{slice_get_past}
use Rattle.definitions.specs.declared.openings.Opening.{Opening}
use Rattle.definitions.specs.declared.places.Slot.{Slot}
use Rattle.definitions.specs.Places.{commit_place, reveal_place, slot_at}
use Rattle.definitions.specs.Honest.{IsHonest, allowed, allows, allows_choice, allows_frame, chosen_for, chosen_track, commits_to, made_count, may_commit, may_reveal, reveals_of}
use Rattle.definitions.specs.Needs.{is_unchosen, is_unchosen_frame, may_choose, needs}
use Rattle.definitions.specs.declared.frames.What.TheVariants.{Commit, Reveal}
use Rattle.definitions.specs.Logs.{chosen, made}
use Rattle.definitions.specs.declared.logs.Entry.TheVariants.{Chose, Made}
use Rattle.definitions.specs.Findings.{is_clean}
use Rattle.definitions.specs.declared.frames.What.{What}
use Rattle.definitions.specs.declared.logs.Entry.{Entry}
use Rattle.definitions.specs.Lists.{is_empty}
use Rattle.definitions.specs.Moves.{is_legal}
use Rattle.definitions.specs.Openings.{commitment}
use Rattle.definitions.specs.declared.world.Move.{Move}
use Rattle.definitions.specs.declared.openings.Nonce.{Nonce}
use Rattle.definitions.specs.Advance.{frame_of}
use Rattle.definitions.specs.World.{Game}
use Rattle.definitions.proofs.Streams.{slot_at-commit}
use Rattle.definitions.proofs.Slots.{slot_at_commit_is, slot_at_reveal_is}
use Rattle.definition_laws.proofs.OwnStream.{IsOwn}
use Rattle.definition_laws.proofs.Listing.{none_past}
use Rattle.plain_lemmas.proofs.Tests.{same_tests}
use Rattle.definition_laws.proofs.Order.{commit_turn}
use Rattle.definition_laws.proofs.Alike.{digest_eq_same, move_eq_same, nonce_eq_same}
use Rattle.definition_laws.proofs.Chosen.{find_chosen}
use Rattle.definition_laws.proofs.OwnLog.{chosen_for_at, own_honest}
use Rattle.definition_laws.proofs.Permits.{needs_commit, needs_reveal}

all_but : (a b c d e : Bool) → a ≡ true → b ≡ true → c ≡ true → d ≡ true → (a && (b && c && d && e)) ≡ e
all_but a b c d e h i j k = grind (arith, h, i, j, k)

-- the owner's commitment may be made exactly where no one is waited for
pub next_commit_allowed : (game : Game) (me t : ℕ) (h : List Entry) (o : Opening) → 1 ≤ game.ahead → IsHonest game me h → is_clean game h ≡ true →
    slot_at game (made_count h) ≡ Some (record { what = Commit; turn = t }) → chosen_for me h t ≡ Some o →
    allowed game me h (Made (frame_of game Commit o)) ≡ is_empty (needs game me h)
unfolding allows allows_frame
next_commit_allowed game me t h o d i clean slot there =
    let who = chosen_for_at game me t h o (own_honest game me h d i) there in
    let at = slot_at_commit_is game (made_count h) t slot in
    let for_turn : chosen_for me h o.turn ≡ Some o = ap (chosen_for me h) who.2 ∙ there in
    all_but _ _ _ _ (may_commit game me h o.turn) clean (eq-eqb o.player me who.1) (eq-eqb (made_count h) (commit_place game o.turn) (sym at.1 ∙ ap (commit_place game) (sym who.2)))
    (ap (λ p. commits_to game p (commitment game.id o)) for_turn ∙ digest_eq_same (commitment game.id o))
    ∙ ap (may_commit game me h) who.2 ∙ sym (needs_commit game me t h slot)

-- the owner's reveal may be made exactly where no one is waited for
pub next_reveal_allowed : (game : Game) (me t : ℕ) (h : List Entry) (o : Opening) → 1 ≤ game.ahead → IsHonest game me h → is_clean game h ≡ true →
    slot_at game (made_count h) ≡ Some (record { what = Reveal; turn = t }) → chosen_for me h t ≡ Some o →
    allowed game me h (Made (frame_of game Reveal o)) ≡ is_empty (needs game me h)
unfolding allows allows_frame
next_reveal_allowed game me t h o d i clean slot there =
    let who = chosen_for_at game me t h o (own_honest game me h d i) there in
    let at = slot_at_reveal_is game (made_count h) t slot in
    let for_turn : chosen_for me h o.turn ≡ Some o = ap (chosen_for me h) who.2 ∙ there in
    all_but _ _ _ _ (may_reveal game me h o.turn) clean (eq-eqb o.player me who.1) (eq-eqb (made_count h) (reveal_place game o.turn) (sym at.1 ∙ ap (reveal_place game) (sym who.2)))
    (ap (λ p. reveals_of p o.mv o.nonce) for_turn ∙ and_from _ _ (move_eq_same o.mv) (nonce_eq_same o.nonce))
    ∙ ap (may_reveal game me h) who.2 ∙ sym (needs_reveal game me t h slot)

-- a legal move may be chosen for the next turn exactly where the owner may choose
pub may_choose_allowed : (game : Game) (me : ℕ) (h : List Entry) (m : Move) (n : Nonce) → 1 ≤ game.ahead → IsHonest game me h →
    is_legal game me (chosen_track game me h) m ≡ true →
    allowed game me h (Chose (length (chosen me h)) m n) ≡ may_choose game me h
unfolding allows allows_choice may_choose
may_choose_allowed game me h m n d i legal = same_tests _ _ there back
  where
    w : IsOwn game me (made h) (chosen me h)
    w = own_honest game me h d i

    last : ℕ
    last = length (chosen me h)

    there : (is_clean game h && ((last == last) && nat_lt last game.turns && (made_count h == commit_place game last) && is_legal game me (chosen_track game me h) m && may_commit game me h last)) ≡ true →
        (is_clean game h && is_unchosen me h (slot_at game (made_count h)) && is_empty (needs game me h)) ≡ true
    there e =
        let a = and_parts _ _ e in
        let b = and_parts _ _ a.1 in
        let c = and_parts _ _ b.0 in
        let f = and_parts _ _ c.0 in
        let g = and_parts _ _ f.0 in
        let below : last < game.turns = ltb-true _ _ g.1 in
        let slot : slot_at game (made_count h) ≡ Some (record { what = Commit; turn = last }) =
        ap (slot_at game) (eqb-true _ _ f.1) ∙ slot_at-commit game last d below in
        let none : chosen_for me h last ≡ None =
        ap (λ n. find (λ o. o.turn == n) (chosen me h)) (sym (zero-add last)) ∙ find_chosen me 0 last (chosen me h) w.chosen_are ∙ slice_get_past (chosen me h) last (le_refl last) in
        and_from _ _ (and_from _ _ a.0 (ap (is_unchosen me h) slot ∙ ap is_none none)) (needs_commit game me last h slot ∙ b.1)

    back : (is_clean game h && is_unchosen me h (slot_at game (made_count h)) && is_empty (needs game me h)) ≡ true →
        (is_clean game h && ((last == last) && nat_lt last game.turns && (made_count h == commit_place game last) && is_legal game me (chosen_track game me h) m && may_commit game me h last)) ≡ true
    back e =
        let a = and_parts (is_clean game h && is_unchosen me h (slot_at game (made_count h))) (is_empty (needs game me h)) e in
        let b = and_parts (is_clean game h) (is_unchosen me h (slot_at game (made_count h))) a.0 in
        at (slot_at game (made_count h)) refl b.1
      where
        at : (s : Option Slot) → slot_at game (made_count h) ≡ s → is_unchosen me h s ≡ true →
            (is_clean game h && ((last == last) && nat_lt last game.turns && (made_count h == commit_place game last) && is_legal game me (chosen_track game me h) m && may_commit game me h last)) ≡ true
        at None k u = absurd (false≢true u)
        at (Some s) k u = frame s.what s.turn k u
          where
            frame : (v : What) (t : ℕ) → slot_at game (made_count h) ≡ Some (record { what = v; turn = t }) → is_unchosen_frame me h v t ≡ true →
                (is_clean game h && ((last == last) && nat_lt last game.turns && (made_count h == commit_place game last) && is_legal game me (chosen_track game me h) m && may_commit game me h last)) ≡ true
            frame Reveal t k u = absurd (false≢true u)
            frame Commit t k u =
                let place = slot_at_commit_is game (made_count h) t k in
                let turn = commit_turn game w.c w.r t d w.orderly place.0 (sym w.counted ∙ sym place.1) in
                let none : is_none (slice_get (chosen me h) t) ≡ true =
                ap is_none (sym (ap (λ n. find (λ o. o.turn == n) (chosen me h)) (sym (zero-add t)) ∙ find_chosen me 0 t (chosen me h) w.chosen_are)) ∙ u in
                let least : last ≤ t = none_past (chosen me h) t none in
                let enough : w.c ≤ last = w.enough in
                let here : t ≡ w.c = turn.1 in
                let same : t ≡ last = omega arith in
                let below : t < game.turns = place.0 in
                let tests = and_parts (is_clean game h && is_unchosen me h (slot_at game (made_count h))) (is_empty (needs game me h)) e in
                and_from _ _ (and_parts (is_clean game h) _ tests.0).0
                (and_from _ _
                (and_from _ _ (and_from _ _ (and_from _ _ (eq-eqb last last refl) (lt-ltb _ _ (omega arith)))
                (eq-eqb _ _ (sym place.1 ∙ ap (commit_place game) same))) legal)
                (ap (may_commit game me h) (sym same) ∙ sym (needs_commit game me t h k) ∙ tests.1))
