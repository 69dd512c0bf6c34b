-- Sitting: the peers at the seats of a table, and the logs that they show.
use Rattle.std.proofs.Common.{◌≡◌, ℕ, zero, suc, ◌<◌, List, [], ◌∷◌, length, set, get_or, length-set, refl, sym, ap, ◌∙◌, subst, arith, inl, inr, ◌⊎◌, Option, Some, None}
use Rattle.std.specs.Prelude.{option_map}
use Rattle.definitions.specs.declared.logs.Entry.{Entry}
use Rattle.definitions.specs.Lists.{item_or}
use Rattle.definitions.specs.World.{Game, players_of}
use Rattle.definitions.specs.Steps.{Logs, log_of, with_log}
use Rattle.peer_core.specs.Views.{PeerState}
use Rattle.peer_core.proofs.Peers.{state_is}
use Rattle.schedule.specs.declared.steps.StepAnswer.{StepAnswer}
use Rattle.schedule.specs.declared.tallies.Tally.{Tally}
use Rattle.schedule.specs.Seats.{log_at, said_at, seat_with}
use Rattle.schedule.specs.Steps.{if_honest}
use Rattle.schedule.specs.Tables.{AreSeated, IsSeated, TableState, logs_at, peer_of}

-- the log of a player is that at its seat
pub log_seat : (seats : List (Option PeerState)) (q : ℕ) → log_of (logs_at seats) q ≡ log_at (item_or seats q None)
log_seat [] q = refl
log_seat (s ∷ ss) zero = refl
log_seat (s ∷ ss) (suc q) = log_seat ss q

-- the logs with another seat
pub logs_set : (seats : List (Option PeerState)) (p : ℕ) (x : Option PeerState) → logs_at (set seats p x) ≡ with_log (logs_at seats) p (log_at x)
logs_set [] p x = refl
logs_set (s ∷ ss) zero x = refl
logs_set (s ∷ ss) (suc p) x = ap (λ (ls : Logs). log_at s ∷ ls) (logs_set ss p x)

-- another seat among the seats
seat_set : (seats : List (Option PeerState)) (p q : ℕ) (x : Option PeerState) (s : PeerState) → item_or (set seats p x) q None ≡ Some s → (item_or seats q None ≡ Some s) ⊎ ((q ≡ p) × (x ≡ Some s))
seat_set [] p q x s e = inl e
seat_set (l ∷ ls) zero zero x s e = inr (refl, e)
seat_set (l ∷ ls) zero (suc q) x s e = inl e
seat_set (l ∷ ls) (suc p) zero x s e = inl e
seat_set (l ∷ ls) (suc p) (suc q) x s e = go (seat_set ls p q x s e)
  where
    go : (item_or ls q None ≡ Some s) ⊎ ((q ≡ p) × (x ≡ Some s)) → (item_or ls q None ≡ Some s) ⊎ ((suc q ≡ suc p) × (x ≡ Some s))
    go (inl a) = inl a
    go (inr b) = inr (ap suc b.0, b.1)

-- a peer at its seat is its session, its player and its log
pub seated_is : (game : Game) (q : ℕ) (s : PeerState) → IsSeated game q s → s ≡ record { game = game; me = q; entries = s.entries }
seated_is game q s i = state_is s game q s.entries i.game_is i.player_is refl

-- the seat that is read at a player's place
pub seat_read : (game : Game) (seats : List (Option PeerState)) (p i : ℕ) (old : Option PeerState) → AreSeated game seats → i ≡ p → old ≡ get_or seats i old → p < players_of game →
    (old ≡ item_or seats p None)
seat_read game seats p i old a e there lt = there ∙ ap (λ k. get_or seats k old) e ∙ by_place seats p old (omega (arith, a.one_each))
  where
    by_place : (seats : List (Option PeerState)) (p : ℕ) (old : Option PeerState) → p < length seats → get_or seats p old ≡ item_or seats p None
    by_place [] p old lt = absurd (omega arith)
    by_place (s ∷ ss) zero old lt = refl
    by_place (s ∷ ss) (suc p) old lt = by_place ss p old (omega arith)

-- the peer at the seat that is read
pub peer_read : (game : Game) (seats : List (Option PeerState)) (tallies : List Tally) (t : TableState) (p i : ℕ) (s : PeerState) (old : Option PeerState) → AreSeated game seats → record { game = game; logs = logs_at seats; tallies = tallies } ≡ t →
    i ≡ p → old ≡ get_or seats i old → p < players_of t.game → old ≡ Some s → Some s ≡ peer_of t p
peer_read game seats tallies t p i s old a view e there lt is =
    let Is : TableState → Type 0 = λ x. p < players_of x.game → Some s ≡ peer_of x p in
    subst Is view go lt
  where
    go : p < players_of game → Some s ≡ peer_of (record { game = game; logs = logs_at seats; tallies = tallies }) p
    go lt =
        let at : item_or seats p None ≡ Some s = sym (seat_read game seats p i old a e there lt) ∙ is in
        let of_log : Option (List Entry) → Option PeerState = λ o. option_map (λ h. record { game = game; me = p; entries = h }) o in
        let one : PeerState → Option PeerState = λ x. Some x in
        ap one (seated_is game p s (a.each p s at)) ∙ sym (ap of_log (log_seat seats p ∙ ap log_at at))

-- ---- a seat whose peer has another log

-- what a player says by its seat is what it says by its log
pub said_by_log : (game : Game) (seats : List (Option PeerState)) (p : ℕ) (says : PeerState → StepAnswer) → AreSeated game seats →
    said_at (item_or seats p None) says ≡ if_honest (log_of (logs_at seats) p) (λ h. says (record { game = game; me = p; entries = h }))
said_by_log game seats p says a = go (item_or seats p None) (λ s e. a.each p s e) ∙ ap (λ (o : Option (List Entry)). if_honest o (λ h. says (record { game = game; me = p; entries = h }))) (sym (log_seat seats p))
  where
    go : (seat : Option PeerState) → ((s : PeerState) → seat ≡ Some s → IsSeated game p s) → said_at seat says ≡ if_honest (log_at seat) (λ h. says (record { game = game; me = p; entries = h }))
    go None i = refl
    go (Some s) i = ap says (seated_is game p s (i s refl))

-- the logs with such a seat
pub logs_with_seat : (game : Game) (seats : List (Option PeerState)) (p : ℕ) (log : PeerState → List Entry) → AreSeated game seats →
    logs_at (set seats p (seat_with log (item_or seats p None))) ≡ with_log (logs_at seats) p (option_map (λ h. log (record { game = game; me = p; entries = h })) (log_of (logs_at seats) p))
logs_with_seat game seats p log a =
    logs_set seats p (seat_with log (item_or seats p None)) ∙
    ap (with_log (logs_at seats) p) (go (item_or seats p None) (λ s e. a.each p s e) ∙ ap (λ (o : Option (List Entry)). option_map (λ h. log (record { game = game; me = p; entries = h })) o) (sym (log_seat seats p)))
  where
    go : (seat : Option PeerState) → ((s : PeerState) → seat ≡ Some s → IsSeated game p s) → log_at (seat_with log seat) ≡ option_map (λ h. log (record { game = game; me = p; entries = h })) (log_at seat)
    go None i = refl
    go (Some s) i = let one : List Entry → Option (List Entry) = λ h. Some h in ap one (ap log (seated_is game p s (i s refl)))

-- the seats with it are the players' still
pub seated_set : (game : Game) (seats : List (Option PeerState)) (p : ℕ) (log : PeerState → List Entry) → AreSeated game seats → AreSeated game (set seats p (seat_with log (item_or seats p None)))
seated_set game seats p log a = record {
  one_each = length-set seats p (seat_with log (item_or seats p None)) ∙ a.one_each;
  each = λ q s e. by_place q s (seat_set seats p q (seat_with log (item_or seats p None)) s e);
}
  where
    kept : (q : ℕ) (seat : Option PeerState) (s : PeerState) → ((x : PeerState) → seat ≡ Some x → IsSeated game q x) → seat_with log seat ≡ Some s → IsSeated game q s
    kept q None s i e = absurd (let none : None ≡ Some s = e in cc)
    kept q (Some x) s i e =
        let same : record x { entries = log x } ≡ s = cc in
        let was = i x refl in
        record { game_is = sym (ap (λ (y : PeerState). y.game) same) ∙ was.game_is; player_is = sym (ap (λ (y : PeerState). y.me) same) ∙ was.player_is }

    by_place : (q : ℕ) (s : PeerState) → (item_or seats q None ≡ Some s) ⊎ ((q ≡ p) × (seat_with log (item_or seats p None) ≡ Some s)) → IsSeated game q s
    by_place q s (inl e) = a.each q s e
    by_place q s (inr w) = subst (λ k. IsSeated game k s) (sym w.0) (kept p (item_or seats p None) s (λ x e. a.each p x e) w.1)
