-- Fits: what holds of every loop still holds after a change.
use Rattle.std.proofs.Common.{◌≡◌, ℕ, zero, suc, ◌+◌, ◌<◌, ◌≤◌, Bool, true, false, refl, sym, ap, subst, ◌∙◌, List, [], ◌∷◌, ◌++◌, append-nil, arith, length}
use Rattle.std.specs.Prelude.{Option, Some, None, slice_get, take, max, ◌==◌, if◌then◌else◌}
use Rattle.std.specs.List.{fold}
use Rattle.std.proofs.lemmas.List.{length-append, take-append-le, take_more}
use Rattle.std.proofs.lemmas.List.Sums.{fold_push}
use Rattle.std.proofs.lemmas.Option.{get_or_from_slice_get}
use Rattle.plain_lemmas.proofs.Each.{each_append, each_map}
use Rattle.definitions.specs.Lists.{EachIs}
use Rattle.definitions.specs.World.{Game, players_of}
use Rattle.definitions.specs.declared.frames.TurnFrame.{TurnFrame}
use Rattle.definitions.specs.declared.logs.Entry.{Entry}
use Rattle.definitions.specs.declared.logs.Entry.TheVariants.{Got}
use Rattle.definitions.specs.Steps.{is_taken_in}
use Rattle.peer_core.specs.Views.{PeerState}
use Rattle.rosters.specs.Rosters.{Neighbours, LinksOthers, others, unless_me}
use Rattle.rosters.specs.declared.roster.Link.{Link}
use Rattle.session_log.specs.Writing.{Writing, fresh}
use Rattle.session_log.specs.Writing as W
use Rattle.letters.specs.declared.letter.Letter.{Letter}
use Rattle.peer_rules.specs.declared.phases.Phase.{Phase}
use Rattle.peer_rules.specs.declared.phases.Phase.TheVariants.{Fresh, KeepFault}
use Rattle.post_rules.specs.declared.partners.Partner.{Partner}
use Rattle.post_rules.specs.Hearing.{tells, told_by}
use Rattle.post_rules.specs.declared.drops.Drops.{Drops}
use Rattle.post_rules.specs.Views.{no_drops, new_partners}
use Rattle.datagram_loop.specs.States.{LoopState, IsFit, kept_of, in_phase, offered, heard_by}
use Rattle.datagram_loop.specs.Beginning.{new_loop}

pub take_next : (es : List Entry) (k : ℕ) (e : Entry) → k < length es → slice_get es k ≡ Some e → take (k + 1) es ≡ take k es ++ e ∷ []
take_next es k e lt g = take_more es k e lt ∙ ap (λ (x : Entry). take k es ++ x ∷ []) (get_or_from_slice_get es k e e g)

-- before a keep failed
pub fit_phase : (p : Phase) (l : LoopState) (w : Writing) → (l.phase ≡ KeepFault → ⊥) → IsFit l w → IsFit (in_phase p l) w
fit_phase p l w differs f = record { kept = f.kept; synced = f.synced; partners = f.partners; writer = λ n. f.writer differs }

-- from a phase that is none of a keep that failed
pub fit_from : (p q : Phase) (i l : LoopState) (w : Writing) → i ≡ l → l.phase ≡ q → (q ≡ KeepFault → ⊥) → IsFit i w → IsFit (in_phase p i) w
fit_from p q i l w same is differs f = fit_phase p i w (λ e. differs (sym is ∙ sym (ap (λ (x : LoopState). x.phase) same) ∙ e)) f

-- after a keep that failed
pub fit_fault : (l : LoopState) (w v : Writing) → IsFit l w → IsFit (in_phase KeepFault l) v
fit_fault l w v f = record { kept = f.kept; synced = f.synced; partners = f.partners; writer = λ n. absurd (n refl) }

pub fit_kept : (l : LoopState) (w v : Writing) (e : Entry) → l.kept < length l.peer.entries → slice_get l.peer.entries l.kept ≡ Some e → (l.phase ≡ KeepFault → ⊥) → v ≡ W.after w e → IsFit l w → IsFit (record l { kept = l.kept + 1 }) v
fit_kept l w v e lt g differs same f = record {
  kept = omega (arith, lt);
  synced = (let s = f.synced in omega (arith, s));
  partners = f.partners;
  writer = λ n. same ∙ ap (λ (x : Writing). W.after x e) (f.writer differs) ∙ sym (fold_push W.after start (kept_of l) e) ∙ ap (fold W.after start) (sym (take_next l.peer.entries l.kept e lt g));
}
  where
    start : Writing
    start = fresh l.peer.game.id l.peer.me

pub fit_synced : (l : LoopState) (w : Writing) → IsFit l w → IsFit (record l { synced = l.kept }) w
fit_synced l w f = record { kept = f.kept; synced = omega arith; partners = f.partners; writer = f.writer }

-- the peer has more entries
pub fit_grown : (l : LoopState) (w : Writing) (q : PeerState) (more : List Entry) → q ≡ record l.peer { entries = l.peer.entries ++ more } → IsFit l w → IsFit (record l { peer = q }) w
fit_grown l w q more e f = subst (λ (x : PeerState). IsFit (record l { peer = x }) w) (sym e) (record {
  kept = (let long = length-append l.peer.entries more in let k = f.kept in omega (arith, long, k));
  synced = f.synced;
  partners = f.partners;
  writer = λ n. f.writer n ∙ ap (fold W.after (fresh l.peer.game.id l.peer.me)) (sym (take-append-le l.kept l.peer.entries more f.kept));
})

-- ---- a datagram is heard

-- what a peer has after an offer: what it had, and perhaps one entry more
pub offered_more : (q : ℕ) (o : Option TurnFrame) (p : PeerState) → (more : List Entry) × (offered q o p ≡ record p { entries = p.entries ++ more })
offered_more q None p = ([], ap (λ (es : List Entry). record p { entries = es }) (sym (append-nil p.entries)))
offered_more q (Some f) p = go (is_taken_in p.game p.me p.entries q f)
  where
    go : (b : Bool) → (more : List Entry) × (record p { entries = if b then p.entries ++ Got q f ∷ [] else p.entries } ≡ record p { entries = p.entries ++ more })
    go true = (Got q f ∷ [], refl)
    go false = ([], ap (λ (es : List Entry). record p { entries = es }) (sym (append-nil p.entries)))

tells_link : (q place : ℕ) (p : Partner) → (tells q place p).link ≡ p.link
tells_link q place p = go (p.link.player == q)
  where
    go : (b : Bool) → (if b then record p { told = max p.told place } else p).link ≡ p.link
    go true = refl
    go false = refl

pub told_each : (n q place : ℕ) (ps : List Partner) → EachIs (λ p. p.link.player < n) ps → EachIs (λ p. p.link.player < n) (told_by q place ps)
told_each n q place [] e = tt
told_each n q place (p ∷ ps) e = (subst (λ (l : Link). l.player < n) (sym (tells_link q place p)) e.0, told_each n q place ps e.1)

pub fit_heard : (l : LoopState) (w : Writing) (letter : Letter) → IsFit l w → IsFit (heard_by letter l) w
fit_heard l w letter f =
    let m = offered_more letter.player letter.frame l.peer in
    let g = fit_grown l w (offered letter.player letter.frame l.peer) m.0 m.1 f in
    record {
      kept = g.kept;
      synced = g.synced;
      partners = told_each (players_of (offered letter.player letter.frame l.peer).game) letter.player letter.next l.partners g.partners;
      writer = g.writer;
    }

-- a datagram is dropped
pub fit_dropped : (l : LoopState) (w : Writing) (d : Drops) → IsFit l w → IsFit (record l { drops = d }) w
fit_dropped l w d f = record { kept = f.kept; synced = f.synced; partners = f.partners; writer = f.writer }

-- ---- a new loop

below_more : (me q : ℕ) → EachIs (λ x. x < q + 1) (unless_me me q)
below_more me q = go (q == me)
  where
    go : (b : Bool) → EachIs (λ x. x < q + 1) (if b then [] else q ∷ [])
    go true = tt
    go false = (omega arith, tt)

weaker : (n m : ℕ) (xs : List ℕ) → n ≤ m → EachIs (λ x. x < n) xs → EachIs (λ x. x < m) xs
weaker n m [] h e = tt
weaker n m (x ∷ xs) h e = (let a = e.0 in omega (arith, a, h), weaker n m xs h e.1)

below : (me n : ℕ) → EachIs (λ x. x < n) (others me n)
below me zero = tt
below me (suc q) =
    each_append (λ x. x < suc q) (others me q) (unless_me me q) (weaker q (suc q) (others me q) (omega arith) (below me q))
    (subst (λ (n : ℕ). EachIs (λ x. x < n) (unless_me me q)) (omega arith) (below_more me q))

partners_each : (n : ℕ) (links : List Link) → EachIs (λ l. l.player < n) links → EachIs (λ p. p.link.player < n) (new_partners links)
partners_each n [] e = tt
partners_each n (l ∷ links) e = (e.0, partners_each n links e.1)

pub new_fits : (p : PeerState) (r : Neighbours) (ps : List Partner) (links : List Link) (w : Writing) (game : Game) (me : ℕ) → LinksOthers p.me (players_of p.game) r → links ≡ r.links → ps ≡ new_partners links → game ≡ p.game → me ≡ p.me → w ≡ fresh game.id me →
    IsFit (record { peer = p; roster = r; partners = ps; kept = 0; synced = 0; phase = Fresh; drops = no_drops }) w
new_fits p r ps links w game me all same made of_game of_me begun = record {
  kept = omega arith;
  synced = omega arith;
  partners = subst (EachIs (λ x. x.link.player < players_of p.game)) (sym (made ∙ ap new_partners same))
      (partners_each (players_of p.game) r.links ((each_map (λ x. x < players_of p.game) (λ l. l.player) r.links).0 (subst (EachIs (λ x. x < players_of p.game)) (sym all) (below p.me (players_of p.game)))));
  writer = λ n. begun ∙ ap (λ (g : Game). fresh g.id me) of_game ∙ ap (fresh p.game.id) of_me;
}

pub new_is : (p : PeerState) (r : Neighbours) (ps : List Partner) (links : List Link) → links ≡ r.links → ps ≡ new_partners links → record { peer = p; roster = r; partners = ps; kept = 0; synced = 0; phase = Fresh; drops = no_drops } ≡ new_loop p r
new_is p r ps links same made = ap (λ (x : List Partner). with x) (made ∙ ap new_partners same)
  where
    with : List Partner → LoopState
    with x = record { peer = p; roster = r; partners = x; kept = 0; synced = 0; phase = Fresh; drops = no_drops }

pub fit_heard_as : (l : LoopState) (w : Writing) (letter : Letter) (p : PeerState) (ps : List Partner) → p ≡ offered letter.player letter.frame l.peer → ps ≡ told_by letter.player letter.next l.partners → IsFit l w → IsFit (record l { peer = p; partners = ps }) w
fit_heard_as l w letter p ps e g f =
    subst (λ (x : PeerState). IsFit (record l { peer = x; partners = ps }) w) (sym e)
    (subst (λ (x : List Partner). IsFit (record l { peer = offered letter.player letter.frame l.peer; partners = x }) w) (sym g) (fit_heard l w letter f))
