-- OwnLog: in an honest log the owner's own stream is all there.
use Rattle.std.proofs.Common.{slice_get, Some, List, [], ap, append_assoc, arith, length, refl, subst, sym, true, zero-add, ℕ, ◌*◌, ◌++◌, ◌+◌, ◌-◌, ◌<◌, ◌∙◌, ◌∷◌, ◌≡◌, ◌≤◌}
use Rattle.std.specs.Prelude.{find, ◌==◌}
use Rattle.std.proofs.lemmas.Bool.{and_parts, cond-true, eq-eqb, eqb-true, ltb-true}
use Rattle.definitions.specs.declared.openings.Opening.{Opening}
use Rattle.definitions.specs.Places.{commit_place, reveal_place}
use Rattle.definitions.specs.Honest.{IsHonest, allowed, allows, allows_choice, allows_frame, chosen_for, honest_from, made_count}
use Rattle.definitions.specs.declared.frames.TurnFrame.TheVariants.{Commit, Reveal}
use Rattle.definitions.specs.Logs.{chosen, frames_of, made}
use Rattle.definitions.specs.declared.logs.Entry.TheVariants.{Chose, Got, Made}
use Rattle.definitions.specs.declared.frames.TurnFrame.{TurnFrame}
use Rattle.definitions.specs.declared.logs.Entry.{Entry}
use Rattle.definitions.specs.Held.{Known, first_commit, known, known_to, next_known, places_in}
use Rattle.definitions.specs.Openings.{commitment}
use Rattle.definitions.specs.World.{Game}
use Rattle.definitions.proofs.Streams.{commit_place-below}
use Rattle.definition_laws.proofs.OwnStream.{IsOwn, length_own, own_chose, own_commit, own_empty, own_known, own_reveal}
use Rattle.definition_laws.proofs.Order.{commit_turn, reveal_turn}
use Rattle.definition_laws.proofs.Knowing.{has_reveal, known_to_stuck, own_stuck}
use Rattle.definition_laws.proofs.Alike.{commits_to_some, reveal_from, reveals_of_some}
use Rattle.definition_laws.proofs.Chosen.{chosen_at, chosen_push, find_chosen, made_push}
use Rattle.definition_laws.proofs.Listing.{append_nil}

-- the same stream by the same frames and choices
pub own_at : (game : Game) (me : ℕ) (fs fs' : List TurnFrame) (os os' : List Opening) → fs ≡ fs' → os ≡ os' → IsOwn game me fs os → IsOwn game me fs' os'
own_at game me fs fs' os os' a b w =
    subst (λ (gs : List TurnFrame). IsOwn game me gs os') a (subst (λ (ps : List Opening). IsOwn game me fs ps) b w)

pub own_step : (game : Game) (me : ℕ) (g : List Entry) (e : Entry) → 1 ≤ game.ahead → IsOwn game me (made g) (chosen me g) → allowed game me g e ≡ true →
    IsOwn game me (made (g ++ e ∷ [])) (chosen me (g ++ e ∷ []))
unfolding allows allows_choice allows_frame
own_step game me g (Got q f) d w h =
    own_at game me _ _ _ _ (sym (append_nil (made g)) ∙ sym (made_push g (Got q f))) (sym (append_nil (chosen me g)) ∙ sym (chosen_push me g (Got q f))) w
own_step game me g (Chose t m n) d w h =
    let a = and_parts _ _ (and_parts _ _ h).1 in
    let b = and_parts _ _ a.0 in
    let c = and_parts _ _ b.0 in
    let e = and_parts _ _ c.0 in
    let turn : length (chosen me g) ≡ t = eqb-true _ _ e.0 in
    let below : t < game.turns = ltb-true _ _ e.1 in
    let room : length (chosen me g) < game.turns = subst (λ (u : ℕ). u < game.turns) (sym turn) below in
    own_at game me _ _ _ _ (sym (append_nil (made g)) ∙ sym (made_push g (Chose t m n))) (sym (chosen_push me g (Chose t m n)))
    (own_chose game me (made g) (chosen me g) (record { player = me; turn = t; mv = m; nonce = n }) d w refl (sym turn) room (eqb-true _ _ c.1 ∙ ap (commit_place game) (sym turn)) b.1)
own_step game me g (Made (Commit p t k)) d w h =
    let a = and_parts _ _ (and_parts _ _ h).1 in
    let b = and_parts _ _ a.0 in
    let c = and_parts _ _ b.0 in
    let o = commits_to_some game (chosen_for me g t) k b.1 in
    let there = sym (find_chosen me 0 t (chosen me g) w.chosen_are) ∙ ap (λ n. find (λ o. o.turn == n) (chosen me g)) (zero-add t) ∙ o.1 in
    own_at game me _ _ _ _ (sym (made_push g (Made (Commit p t k)))) (sym (append_nil (chosen me g)) ∙ sym (chosen_push me g (Made (Commit p t k))))
    (own_commit game me (made g) (chosen me g) p t k o.0 d w (eqb-true _ _ c.1) there o.2)
own_step game me g (Made (Reveal p t m n)) d w h =
    let a = and_parts _ _ (and_parts _ _ h).1 in
    let b = and_parts _ _ a.0 in
    let c = and_parts _ _ b.0 in
    let o = reveals_of_some (chosen_for me g t) m n b.1 in
    let there = sym (find_chosen me 0 t (chosen me g) w.chosen_are) ∙ ap (λ n. find (λ o. o.turn == n) (chosen me g)) (zero-add t) ∙ o.1 in
    let who = chosen_at me 0 t (chosen me g) o.0 w.chosen_are there in
    let turn : o.0.turn ≡ t = who.1 ∙ zero-add t in
    let same = reveal_from o.0.player p o.0.turn t o.0.mv m o.0.nonce n (who.0 ∙ sym (eqb-true _ _ c.0)) turn (sym o.2) (sym o.3) in
    own_at game me _ _ _ _ (ap (λ (f : TurnFrame). made g ++ f ∷ []) same ∙ sym (made_push g (Made (Reveal p t m n))))
    (sym (append_nil (chosen me g)) ∙ sym (chosen_push me g (Made (Reveal p t m n))))
    (own_reveal game me (made g) (chosen me g) t o.0 d w (eqb-true _ _ c.1) there turn)

pub own_from : (game : Game) (me : ℕ) (g es : List Entry) → 1 ≤ game.ahead → IsOwn game me (made g) (chosen me g) → honest_from game me g es ≡ true →
    IsOwn game me (made (g ++ es)) (chosen me (g ++ es))
unfolding honest_from
own_from game me g [] d w h = subst (λ (k : List Entry). IsOwn game me (made k) (chosen me k)) (sym (append_nil g)) w
own_from game me g (e ∷ es) d w h =
    let both = and_parts _ _ h in
    subst (λ (k : List Entry). IsOwn game me (made k) (chosen me k)) (append_assoc g (e ∷ []) es)
    (own_from game me (g ++ e ∷ []) es d (own_step game me g e d w both.0) both.1)

-- the owner's own stream in an honest log
pub own_honest : (game : Game) (me : ℕ) (h : List Entry) → 1 ≤ game.ahead → IsHonest game me h → IsOwn game me (made h) (chosen me h)
unfolding made chosen
own_honest game me h d i = own_from game me [] h d (own_empty game me) i

pub frames_of_own : (me : ℕ) (h : List Entry) → frames_of me me h ≡ made h
frames_of_own me h = cond-true (me == me) _ _ (eq-eqb me me refl)

-- in an honest log all frames that the owner made are there
pub known_own : (game : Game) (me : ℕ) (h : List Entry) → 1 ≤ game.ahead → (w : IsOwn game me (made h) (chosen me h)) → known game me h me ≡ own_known game (chosen me h) w.c w.r
unfolding known
known_own game me h d w =
    let n = w.counted in
    let o = w.orderly in
    let within = o.within in
    let turns = o.turns in
    let le_c = w.enough in
    let le_r = w.before in
    let k : Known = own_known game (chosen me h) w.c w.r in
    let dc : length k.digests ≡ w.c = length_own (commitment game.id) w.c (chosen me h) (omega arith) in
    let dr : length k.moves ≡ w.r = length_own (λ o. o.mv) w.r (chosen me h) (omega arith) in
    let stuck : next_known game me (made h) k ≡ k = own_stuck game me (made h) k (ap (first_commit (made h)) dc ∙ w.commits_end w.c (omega arith)) (ap (λ t. has_reveal t (made h)) dr ∙ w.reveals_end w.r (omega arith)) in
    let e : 2 * game.turns - made_count h + made_count h ≡ 2 * game.turns = omega arith in
    ap (λ (fs : List TurnFrame). known_to game me fs (2 * game.turns)) (frames_of_own me h)
    ∙ ap (known_to game me (made h)) (sym e)
    ∙ known_to_stuck game me (made h) (made_count h) (2 * game.turns - made_count h) (ap (next_known game me (made h)) w.known_is ∙ stuck ∙ sym w.known_is)
    ∙ w.known_is

-- in an honest log the owner's next place is the number of its made frames
pub next_place_own : (game : Game) (me : ℕ) (h : List Entry) → 1 ≤ game.ahead → IsHonest game me h → places_in (known game me h me) ≡ made_count h
next_place_own game me h d i =
    let w = own_honest game me h d i in
    let le_c = w.enough in
    let le_r = w.before in
    let n = w.counted in
    let dc = length_own (commitment game.id) w.c (chosen me h) (omega arith) in
    let dr = length_own (λ o. o.mv) w.r (chosen me h) (omega arith) in
    let sum : places_in (own_known game (chosen me h) w.c w.r) ≡ made_count h = omega arith in
    ap places_in (known_own game me h d w) ∙ sum

-- how many own turns are resolved when a reveal, or a commitment, is next
pub resolved_count_at_reveal : (game : Game) (me t : ℕ) (h : List Entry) → 1 ≤ game.ahead → IsHonest game me h → t < game.turns → made_count h ≡ reveal_place game t →
    length (known game me h me).moves ≡ t
resolved_count_at_reveal game me t h d i lt at =
    let w = own_honest game me h d i in
    let turn = reveal_turn game w.c w.r t d w.orderly lt (sym w.counted ∙ at) in
    let le_c = w.enough in
    let le_r = w.before in
    ap (λ (k : Known). length k.moves) (known_own game me h d w) ∙ length_own (λ o. o.mv) w.r (chosen me h) (omega arith) ∙ sym turn.2

pub resolved_count_at_commit : (game : Game) (me t : ℕ) (h : List Entry) → 1 ≤ game.ahead → IsHonest game me h → t < game.turns → made_count h ≡ commit_place game t →
    length (known game me h me).moves ≡ t + 1 - game.ahead
resolved_count_at_commit game me t h d i lt at =
    let w = own_honest game me h d i in
    let turn = commit_turn game w.c w.r t d w.orderly lt (sym w.counted ∙ at) in
    let le_c = w.enough in
    let le_r = w.before in
    let count : length (known game me h me).moves ≡ w.r =
    ap (λ (k : Known). length k.moves) (known_own game me h d w) ∙ length_own (λ o. o.mv) w.r (chosen me h) (omega arith) in
    let place = commit_place-below game t lt in
    let n = w.counted in
    let same = turn.1 in
    count ∙ omega arith

-- what was chosen for a turn stands at its number, by the owner, for that turn
pub chosen_for_at : (game : Game) (me t : ℕ) (h : List Entry) (o : Opening) → IsOwn game me (made h) (chosen me h) → chosen_for me h t ≡ Some o →
    (slice_get (chosen me h) t ≡ Some o) × (o.player ≡ me) × (o.turn ≡ t)
chosen_for_at game me t h o w e =
    let at = sym (find_chosen me 0 t (chosen me h) w.chosen_are) ∙ ap (λ n. find (λ o. o.turn == n) (chosen me h)) (zero-add t) ∙ e in
    let who = chosen_at me 0 t (chosen me h) o w.chosen_are at in
    (at, who.0, who.1 ∙ zero-add t)
