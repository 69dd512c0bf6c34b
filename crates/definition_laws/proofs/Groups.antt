-- Groups: whoever is waited for made fewer frames, so no group of honest players waits for itself.
use Rattle.std.proofs.Common.{Bool, List, None, Some, [], ap, arith, false, inl, inr, length, refl, subst, suc, sym, true, zero, ℕ, ◌*◌, ◌+◌, ◌-◌, ◌<◌, ◌∙◌, ◌∷◌, ◌≡◌, ◌≤◌, ◌⊎◌, Option, slice_get}
use Rattle.std.specs.Prelude.{cond, filter, if◌then◌else◌, is_some, map, nat_lt, not, take, ◌&&◌, ◌||◌, ◌==◌}
use Rattle.std.specs.List.{range_with_len}
use Rattle.std.proofs.lemmas.Bool.{and_from, cases_lt, cond-true, eq-eqb, false≢true, ltb-false, ltb-true}
use Rattle.plain_lemmas.proofs.Options.{some_of}
use Rattle.definitions.specs.declared.world.Move.{Move}
use Rattle.definitions.specs.declared.openings.Digest.{Digest}
use Rattle.definitions.specs.declared.openings.Opening.{Opening}
use Rattle.definitions.specs.declared.frames.TurnFrame.{TurnFrame}
use Rattle.definitions.specs.declared.frames.TurnFrame.TheVariants as F
use Rattle.definitions.specs.declared.frames.What.{What}
use Rattle.definitions.specs.declared.frames.What.TheVariants.{Commit, Reveal}
use Rattle.definitions.specs.declared.answers.Need.{Need}
use Rattle.definitions.specs.declared.logs.Entry.{Entry}
use Rattle.definitions.specs.Lists.{EachIs}
use Rattle.definitions.specs.World.{Game, players_of}
use Rattle.definitions.specs.Moves.{is_legal, start_track, track_after}
use Rattle.definitions.specs.Openings.{commitment}
use Rattle.definitions.specs.declared.places.Slot.{Slot}
use Rattle.definitions.specs.Places.{slot_at}
use Rattle.definitions.specs.Logs.{chosen, digest_eq, frames_of, got_of, made}
use Rattle.definitions.specs.Held.{commit_of, digest_of, held, known, next_place, opening_of, resolved, resolved_count}
use Rattle.definitions.specs.Honest.{IsHonest, chosen_for, lets_commit, lets_reveal, made_count, others}
use Rattle.definitions.specs.Needs.{is_done, may_choose, need_of, needs, needs_at, needs_unless}
use Rattle.definitions.specs.Advance.{frame_at, frame_chosen}
use Rattle.definitions.specs.Steps.{AreAuthentic, IsMadeIn, Logs, has_log, log_of}
use Rattle.definitions.proofs.Streams.{commit_place-below, reveal_place-below}
use Rattle.definitions.proofs.Slots.{slot_at_commit_is, slot_at_reveal_is}
use Rattle.definition_laws.specs.Members.{Has}
use Rattle.definition_laws.specs.Advancing.{ExactlyOne, IsDone}
use Rattle.definition_laws.specs.Groups.{HasAllOf, IsStill, NoneLacks}
use Rattle.definition_laws.specs.Stepping.{AreHonest}
use Rattle.definition_laws.proofs.Alike.{digest_eq_same}
use Rattle.definition_laws.proofs.Authentic.{got_conform}
use Rattle.definition_laws.proofs.Behind.{frames_of_other}
use Rattle.definition_laws.proofs.Chosen.{legal_at}
use Rattle.definition_laws.proofs.ForPeers.{made_item}
use Rattle.definition_laws.proofs.Innocent.{Conforms, known_chosen}
use Rattle.definition_laws.proofs.Members.{Has_each, Has_middle, map_Has, slice_get_Has}
use Rattle.definition_laws.proofs.Nexts.{held_below, held_is_first, known_orderly, no_commit_next, no_opening_next, resolved_below, some_at}
use Rattle.definition_laws.proofs.Order.{reveal_turn}
use Rattle.definition_laws.proofs.OwnLog.{chosen_for_at, own_honest}
use Rattle.definition_laws.proofs.Standing.{made_count_most, past_end, stands_one_way}

filter_Has : {X : Type 0} (p : X → Bool) (xs : List X) (x : X) → Has (filter p xs) x → Has xs x × (p x ≡ true)
filter_Has p [] x m = absurd m
filter_Has {X} p (y ∷ ys) x m = go (p y) refl m (filter_Has p ys x)
  where
    go : (b : Bool) → p y ≡ b → Has (cond b (y ∷ filter p ys) (filter p ys)) x → (Has (filter p ys) x → Has ys x × (p x ≡ true)) → ((y ≡ x) ⊎ Has ys x) × (p x ≡ true)
    go true e (inl a) ih = (inl a, ap p (sym a) ∙ e)
    go true e (inr k) ih = let r = ih k in (inr r.0, r.1)
    go false e k ih = let r = ih k in (inr r.0, r.1)

-- who is needed is another player that does not pass the test
needed : (game : Game) (me : ℕ) (h : List Entry) (test : ℕ → Bool) (t : ℕ) (what : What) (n : Need) → Has (needs_unless game me h test t what) n →
    Has (others game me) n.player × (test n.player ≡ false)
needed game me h test t what n m =
    let a = map_Has (need_of game me h t what) (filter (λ q. not (test q)) (others game me)) n m in
    let b = filter_Has (λ q. not (test q)) (others game me) a.0 a.1 in
    let player : a.0 ≡ n.player = ap (λ (x : Need). x.player) a.2 in
    subst (λ (q : ℕ). Has (others game me) q × (test q ≡ false)) player (b.0, fails (test a.0) b.1)
  where
    fails : (b : Bool) → not b ≡ true → b ≡ false
    fails true h = absurd (false≢true h)
    fails false h = refl

-- another player is not the owner
other_is_not : (game : Game) (me q : ℕ) → Has (others game me) q → q ≡ me → ⊥
unfolding others
other_is_not game me q m same = false≢true (sym (ap not (eq-eqb q me same)) ∙ (filter_Has (λ q. not (q == me)) (range_with_len 0 (players_of game)) q m).1)

left_false : (a b : Bool) → (a || b) ≡ false → a ≡ false
left_false false b h = refl
left_false true b h = h

-- what is not there has no place below the next
missing : (b : Bool) (x y : ℕ) → b ≡ false → (x < y → b ≡ true) → y ≤ x
missing b x y e f = go (cases_lt x y)
  where
    go : (x < y) ⊎ (y ≤ x) → y ≤ x
    go (inl h) = absurd (false≢true (sym e ∙ f h))
    go (inr h) = h

-- whoever is waited for is another player, and behind
pub needed_is_behind : (game : Game) (me : ℕ) (h : List Entry) (n : Need) → 1 ≤ game.ahead → IsHonest game me h → Has (needs game me h) n →
    Has (others game me) n.player × (next_place game me h n.player < made_count h)
unfolding needs
needed_is_behind game me h n d i m = go (slot_at game (made_count h)) refl m
  where
    at_end : slot_at game (made_count h) ≡ None → resolved_count game me h n.player < game.turns → next_place game me h n.player < made_count h
    at_end e few =
        let least = past_end game (made_count h) d e in
        let o = known_orderly game me n.player h in
        let within = o.within in
        omega arith

    at_commit : (t : ℕ) → slot_at game (made_count h) ≡ Some (record { what = Commit; turn = t }) → game.ahead ≤ t → is_some (resolved game me h n.player (t - game.ahead)) ≡ false →
        next_place game me h n.player < made_count h
    at_commit t s late none =
        let at = slot_at_commit_is game (made_count h) t s in
        let lt = at.0 in
        let there = at.1 in
        let below : t - game.ahead < game.turns = omega arith in
        let least = missing _ _ _ none (resolved_below game me n.player (t - game.ahead) h d below).1 in
        let reveal = reveal_place-below game (t - game.ahead) below in
        let commit = commit_place-below game t lt in
        omega arith

    at_reveal : (t : ℕ) → slot_at game (made_count h) ≡ Some (record { what = Reveal; turn = t }) → is_some (held game me h n.player t) ≡ false → next_place game me h n.player < made_count h
    at_reveal t s none =
        let at = slot_at_reveal_is game (made_count h) t s in
        let lt = at.0 in
        let there = at.1 in
        let least = missing _ _ _ none (held_below game me n.player t h d lt).1 in
        let reveal = reveal_place-below game t lt in
        let commit = commit_place-below game t lt in
        omega arith

    late_commit : (t : ℕ) → slot_at game (made_count h) ≡ Some (record { what = Commit; turn = t }) → (b : Bool) → nat_lt t game.ahead ≡ b →
        Has (if b then [] else needs_unless game me h (lets_commit game me h (t - game.ahead)) (t - game.ahead) Reveal) n →
        Has (others game me) n.player × (next_place game me h n.player < made_count h)
    late_commit t s true e k = absurd k
    late_commit t s false e k =
        let w = needed game me h (lets_commit game me h (t - game.ahead)) (t - game.ahead) Reveal n k in
        (w.0, at_commit t s (ltb-false _ _ e) (left_false _ _ w.1))

    frame : (v : What) (t : ℕ) → slot_at game (made_count h) ≡ Some (record { what = v; turn = t }) → Has (needs_at game me h (Some (record { what = v; turn = t }))) n →
        Has (others game me) n.player × (next_place game me h n.player < made_count h)
    frame Commit t s k = late_commit t s (nat_lt t game.ahead) refl k
    frame Reveal t s k =
        let w = needed game me h (lets_reveal game me h t) t Commit n k in
        (w.0, at_reveal t s (left_false _ _ w.1))

    done : (b : Bool) → nat_lt (resolved_count game me h n.player) game.turns ≡ b → not b ≡ false → resolved_count game me h n.player < game.turns
    done true e f = ltb-true _ _ e
    done false e f = absurd (false≢true (sym f))

    go : (s : Option Slot) → slot_at game (made_count h) ≡ s → Has (needs_at game me h s) n → Has (others game me) n.player × (next_place game me h n.player < made_count h)
    go None e k =
        let w = needed game me h (is_done game me h) (game.turns - 1) Reveal n k in
        (w.0, at_end e (done (nat_lt (resolved_count game me h n.player) game.turns) refl w.1))
    go (Some s) e k = frame s.what s.turn e k

nothing : {X : Type 0} (x : X) → Some x ≡ None → ⊥
nothing x h = cc

-- where all that an honest player made came over, all of it counts
pub all_counts : (game : Game) (me q : ℕ) (own h : List Entry) → 1 ≤ game.ahead → IsHonest game q own → (q ≡ me → ⊥) → EachIs (IsMadeIn own) (got_of q h) → HasAllOf q own h →
    made_count own ≤ next_place game me h q
unfolding known digest_of
all_counts game me q own h d honest other authentic whole = go (cases_lt (next_place game me h q) (made_count own))
  where
    n : ℕ
    n = next_place game me h q

    frames : frames_of me q h ≡ got_of q h
    frames = frames_of_other me q h other

    conform : EachIs (Conforms game (chosen q own)) (frames_of me q h)
    conform = subst (λ (fs : List TurnFrame). EachIs (Conforms game (chosen q own)) fs) (sym frames) (got_conform game q own h d honest authentic)

    came : (f : TurnFrame) → slice_get (made own) n ≡ Some f → Has (frames_of me q h) f
    came f e = subst (λ (fs : List TurnFrame). Has fs f) (sym frames) (Has_each (Has (got_of q h)) (made own) f whole (slice_get_Has (made own) n f e))

    opens : (t : ℕ) → slot_at game n ≡ Some (record { what = Reveal; turn = t }) → (o : Opening) → slice_get (chosen q own) t ≡ Some o → o.turn ≡ t → (c : Digest) → held game me h q t ≡ Some c →
        ((o.turn == t) && digest_eq (digest_of game (F.Reveal o.player o.turn o.mv o.nonce)) c && is_legal game q (track_after game q (known game me h q).moves) o.mv) ≡ true
    opens t s o at turn c e =
        let first = held_is_first game me q t h c e in
        let chose = Has_each (Conforms game (chosen q own)) (frames_of me q h) (F.Commit first.0 t c) conform
        (subst (λ (fs : List TurnFrame). Has fs (F.Commit first.0 t c)) (sym first.3) (Has_middle first.1 first.2 (F.Commit first.0 t c))) in
        let same : Some chose.0 ≡ Some o = sym chose.1 ∙ at in
        let one : chose.0 ≡ o = cc in
        let digest : c ≡ commitment game.id o = chose.2 ∙ ap (commitment game.id) one in
        let slot = slot_at_reveal_is game n t s in
        let turns = reveal_turn game (length (known game me h q).digests) (length (known game me h q).moves) t d (known_orderly game me q h) slot.0 (sym slot.1) in
        let moves : (known game me h q).moves ≡ map (λ o. o.mv) (take t (chosen q own)) =
        known_chosen game q (chosen q own) (frames_of me q h) (2 * game.turns) conform ∙ ap (λ (k : ℕ). map (λ o. o.mv) (take k (chosen q own))) (sym turns.2) in
        let w = own_honest game q own d honest in
        and_from _ _
        (and_from _ _ (eq-eqb _ _ turn) (ap (digest_eq (commitment game.id o)) digest ∙ digest_eq_same (commitment game.id o)))
        (ap (λ (ms : List Move). is_legal game q (track_after game q ms) o.mv) moves ∙ legal_at game q (chosen q own) (start_track game q) t o w.legal at)

    no_commit : (t : ℕ) → slot_at game n ≡ Some (record { what = Commit; turn = t }) → (o : Opening) → o.turn ≡ t → Has (frames_of me q h) (F.Commit o.player o.turn (commitment game.id o)) → ⊥
    no_commit t s o turn m =
        let none = Has_each (λ f. commit_of t f ≡ None) (frames_of me q h) (F.Commit o.player o.turn (commitment game.id o)) (no_commit_next game me q t h d s) m in
        nothing _ (sym (cond-true (o.turn == t) (Some (commitment game.id o)) None (eq-eqb _ _ turn)) ∙ none)

    no_reveal : (t : ℕ) → slot_at game n ≡ Some (record { what = Reveal; turn = t }) → (o : Opening) → slice_get (chosen q own) t ≡ Some o → o.turn ≡ t →
        Has (frames_of me q h) (F.Reveal o.player o.turn o.mv o.nonce) → ⊥
    no_reveal t s o at turn m =
        let fits = no_opening_next game me q t h d s in
        let none = Has_each (λ f. opening_of game q (known game me h q).moves fits.0 t f ≡ None) (frames_of me q h) (F.Reveal o.player o.turn o.mv o.nonce) fits.2 m in
        nothing o.mv (sym (cond-true _ (Some o.mv) None (opens t s o at turn fits.0 fits.1)) ∙ none)

    never : (f : TurnFrame) → slice_get (made own) n ≡ Some f → (v : What) (t : ℕ) → slot_at game n ≡ Some (record { what = v; turn = t }) → (o : Option Opening) → chosen_for q own t ≡ o →
        frame_chosen game v o ≡ Some f → ⊥
    never f e v t s None c k = nothing f (sym k)
    never f e Commit t s (Some o) c k =
        let is : F.Commit o.player o.turn (commitment game.id o) ≡ f = cc in
        let at = chosen_for_at game q t own o (own_honest game q own d honest) c in
        no_commit t s o at.2 (subst (λ (g : TurnFrame). Has (frames_of me q h) g) (sym is) (came f e))
    never f e Reveal t s (Some o) c k =
        let is : F.Reveal o.player o.turn o.mv o.nonce ≡ f = cc in
        let at = chosen_for_at game q t own o (own_honest game q own d honest) c in
        no_reveal t s o at.0 at.2 (subst (λ (g : TurnFrame). Has (frames_of me q h) g) (sym is) (came f e))

    slot : (f : TurnFrame) → slice_get (made own) n ≡ Some f → (s : Option Slot) → slot_at game n ≡ s → frame_at game q own s ≡ Some f → ⊥
    slot f e None s k = nothing f (sym k)
    slot f e (Some v) s k = never f e v.what v.turn s (chosen_for q own v.turn) refl k

    go : (next_place game me h q < made_count own) ⊎ (made_count own ≤ next_place game me h q) → made_count own ≤ next_place game me h q
    go (inr le) = le
    go (inl lt) =
        let there = some_at (made own) n lt in
        absurd (slot there.0 there.1 (slot_at game n) refl (made_item game q n own there.0 d honest there.1))

-- what holds of all who wait for no one: they are done
pub done_where_still : (game : Game) (logs : Logs) (p : ℕ) (h : List Entry) → 1 ≤ game.ahead → IsHonest game p h → IsStill game logs p h → needs game p h ≡ [] → IsDone game p h
done_where_still game logs p h d i still none = go (stands_one_way game p h d i still.clean still.makes)
  where
    go : ExactlyOne (may_choose game p h ≡ true) (needs game p h ≡ [] → ⊥) (IsDone game p h) → IsDone game p h
    go (inl w) = absurd (still.chooses w.0)
    go (inr (inl w)) = absurd (w.1 none)
    go (inr (inr w)) = w.2

-- no player with fewer made frames than this waits
none_waits : (game : Game) (logs : Logs) (most p : ℕ) (h : List Entry) → 1 ≤ game.ahead → AreHonest game logs → AreAuthentic logs → NoneLacks logs →
    ((p : ℕ) (h : List Entry) → log_of logs p ≡ Some h → IsStill game logs p h) → log_of logs p ≡ Some h → made_count h < most → needs game p h ≡ []
none_waits game logs zero p h d honest authentic whole still at few = absurd (omega arith)
none_waits game logs (suc most) p h d honest authentic whole still at few =
    go (needs game p h) refl (λ q own there less. none_waits game logs most q own d honest authentic whole still there less)
  where
    -- the one that is waited for made fewer frames, so it waits for no one, and has frames to make
    never : (n : Need) → Has (needs game p h) n → ((q : ℕ) (own : List Entry) → log_of logs q ≡ Some own → made_count own < most → needs game q own ≡ []) → ⊥
    never n m ih =
        let behind = needed_is_behind game p h n d (honest p h at) m in
        let w = still p h at in
        let own = some_of (log_of logs n.player) (Has_each (λ n. has_log logs n.player ≡ true) (needs game p h) n w.waits m) in
        let other = other_is_not game p n.player behind.0 in
        let counts = all_counts game p n.player own.0 h d (honest n.player own.0 own.1) other (authentic p n.player h own.0 at own.1) (whole p n.player h own.0 at own.1 other) in
        let next = behind.1 in
        let most = made_count_most game p h d (honest p h at) in
        let done = done_where_still game logs n.player own.0 d (honest n.player own.0 own.1) (still n.player own.0 own.1) (ih n.player own.0 own.1 (omega arith)) in
        let all = done.0 in
        omega arith

    go : (ns : List Need) → needs game p h ≡ ns → ((q : ℕ) (own : List Entry) → log_of logs q ≡ Some own → made_count own < most → needs game q own ≡ []) → needs game p h ≡ []
    go [] e ih = e
    go (n ∷ ns) e ih = absurd (never n (subst (λ (xs : List Need). Has xs n) (sym e) (inl refl)) ih)

-- where honest players all stand still, lack nothing of each other, and wait for no hostile player, all are done
pub none_is_stuck : (game : Game) (logs : Logs) → 1 ≤ game.ahead → AreHonest game logs → AreAuthentic logs → NoneLacks logs →
    ((p : ℕ) (h : List Entry) → log_of logs p ≡ Some h → IsStill game logs p h) → (p : ℕ) (h : List Entry) → log_of logs p ≡ Some h → IsDone game p h
none_is_stuck game logs d honest authentic whole still p h at =
    done_where_still game logs p h d (honest p h at) (still p h at)
    (none_waits game logs (made_count h + 1) p h d honest authentic whole still at (omega arith))
