-- Told: at the end of a match its logs agree on all turns of all players, so that it is told where each stands.
use Rattle.std.proofs.Common.{◌≡◌, inl, inr, ℕ, zero, suc, ◌+◌, ◌*◌, ◌<◌, ◌≤◌, true, false, List, [], ◌∷◌, Option, None, Some, length, map, slice_get, take, refl, sym, ◌∙◌, ap, subst, arith}
use Rattle.std.specs.Prelude.{filter_map, is_some, ◌==◌}
use Rattle.std.specs.List.{list_all, range_with_len}
use Rattle.std.proofs.lemmas.Bool.{and_from, cases_eq, cond-true, eq-eqb}
use Rattle.std.proofs.lemmas.List.FromFn.{length-map-range_with_len}
use Rattle.std.proofs.lemmas.Option.{slice_get_within}
use Rattle.plain_lemmas.proofs.Options.{some_of}
use Rattle.definitions.specs.declared.openings.Opening.{Opening}
use Rattle.definitions.specs.declared.world.Move.{Move}
use Rattle.definitions.specs.declared.logs.Entry.{Entry}
use Rattle.definitions.specs.Held.{known, next_place, resolved, resolved_count}
use Rattle.definitions.specs.Honest.{made_count}
use Rattle.definitions.specs.Lists.{EachIs, item_or}
use Rattle.definitions.specs.Logs.{chosen, got_of, move_eq}
use Rattle.definitions.specs.Places.{reveal_place}
use Rattle.definitions.specs.Steps.{Logs, has_log, log_of}
use Rattle.definitions.specs.World.{Game, players_of}
use Rattle.definitions.proofs.Streams.{reveal_place-fits}
use Rattle.definition_laws.specs.Members.{Has}
use Rattle.definition_laws.proofs.Alike.{move_eq_same}
use Rattle.definition_laws.proofs.ForPeers.{own_moves, own_next}
use Rattle.definition_laws.proofs.Listing.{slice_get_map, slice_get_take}
use Rattle.definition_laws.proofs.Members.{Has_filter_map, Has_range}
use Rattle.definition_laws.proofs.Nexts.{resolved_below, some_at}
use Rattle.auditor.specs.Agreed.{agreed_move, agreed_moves, all_agreed_moves, are_whole, line_of, moves_given, resolved_at, resolved_by}
use Rattle.frame_index.specs.Agreeing.{one_move}
use Rattle.auditor.proofs.Worlds.{item_range}
use Rattle.playout.specs.Lockstep.{lockstep}
use Rattle.schedule.specs.declared.stands.Stand.TheVariants.{Finished}
use Rattle.schedule.specs.Stands.{stand}
use Rattle.schedule.proofs.Holding.{fair_holds}
use Rattle.make_command.specs.Audits.{audited_logs, audited_owners, entries_by, owner_by, world_line, world_lines}
use Rattle.make_command.proofs.Counted.{entries_at}
use Rattle.make_command.proofs.Fair.{AreSound}
use Rattle.make_command.proofs.Going.{log_there}
use Rattle.make_command.proofs.InOrder.{InOrder, next_is_count}
use Rattle.make_command.proofs.Lasts.{all_made, have_all, own_chosen}

-- ---- lists

filter_whole : {X : Type 0} (f : ℕ → Option X) (a n : ℕ) → ((k : ℕ) → a ≤ k → k < a + n → is_some (f k) ≡ true) → length (filter_map f (range_with_len a n)) ≡ n
filter_whole f a zero each = refl
filter_whole {X} f a (suc n) each = go (f a) refl (each a (omega arith) (omega arith)) (filter_whole f (a + 1) n (λ k le lt. each k (omega (arith, le)) (omega (arith, lt))))
  where
    go : (o : Option X) → f a ≡ o → is_some o ≡ true → length (filter_map f (range_with_len (a + 1) n)) ≡ n → length (filter_map f (range_with_len a (suc n))) ≡ suc n
    go None e t ih = absurd (let never : false ≡ true = t in cc)
    go (Some x) e t ih = rw e (ap suc ih)

given_each : (f : ℕ → Option Move) (m : Move) (a n : ℕ) → ((k : ℕ) → a ≤ k → k < a + n → (x : Move) → f k ≡ Some x → x ≡ m) → EachIs (λ x. x ≡ m) (filter_map f (range_with_len a n))
given_each f m a zero each = tt
given_each f m a (suc n) each = go (f a) refl (given_each f m (a + 1) n (λ k le lt. each k (omega (arith, le)) (omega (arith, lt))))
  where
    go : (o : Option Move) → f a ≡ o → EachIs (λ x. x ≡ m) (filter_map f (range_with_len (a + 1) n)) → EachIs (λ x. x ≡ m) (filter_map f (range_with_len a (suc n)))
    go None e ih = rw e ih
    go (Some x) e ih = rw e ((each a (omega arith) (omega arith) x e, ih))

all_over : (f : ℕ → List Move) (m a n : ℕ) → ((k : ℕ) → a ≤ k → k < a + n → length (f k) ≡ m) → list_all (λ own. length own == m) (map f (range_with_len a n)) ≡ true
all_over f m a zero each = refl
all_over f m a (suc n) each =
    and_from (length (f a) == m) (list_all (λ own. length own == m) (map f (range_with_len (a + 1) n))) (eq-eqb (length (f a)) m (each a (omega arith) (omega arith)))
    (all_over f m (a + 1) n (λ k le lt. each k (omega (arith, le)) (omega (arith, lt))))

all_same : (m : Move) (ms : List Move) → EachIs (λ x. x ≡ m) ms → list_all (move_eq m) ms ≡ true
all_same m [] each = refl
all_same m (x ∷ ms) each = and_from (move_eq m x) (list_all (move_eq m) ms) (ap (move_eq m) each.0 ∙ move_eq_same m) (all_same m ms each.1)

one_is : (m : Move) (ms : List Move) → EachIs (λ x. x ≡ m) ms → Has ms m → is_some (one_move ms) ≡ true
one_is m [] each has = absurd has
one_is m (x ∷ ms) each has =
    let same : list_all (move_eq x) ms ≡ true = ap (λ (y : Move). list_all (move_eq y) ms) each.0 ∙ all_same m ms each.1 in
    ap is_some (cond-true (list_all (move_eq x) ms) (Some x) None same)

-- ---- the moves that the logs give
module _ (game : Game) (logs : Logs) (w : AreSound game logs) (size : players_of game ≡ 8) (turns : game.turns ≡ 200) (order : InOrder logs) (e : stand game logs ≡ Finished) where
  ahead : 1 ≤ game.ahead
  ahead = w.session.ahead.0

  inside : (p : ℕ) → p < 8 → p < players_of game
  inside p lt = omega (arith, lt, size)

  -- each log knows all of each player's stream
  all_next : (p q : ℕ) (h own : List Entry) → log_of logs p ≡ Some h → log_of logs q ≡ Some own → p < 8 → q < 8 → 400 ≤ next_place game p h q
  all_next p q h own at_p at_q lt below = elim (cases_eq q p) [
    | inl same ↦
        let next : next_place game p h p ≡ made_count h = own_next game p h ahead (w.fair.honest p h at_p) in
        subst (λ (n : ℕ). 400 ≤ next_place game p h n) (sym same) (least (next_place game p h p) (made_count h) next (all_made game logs w size turns order e p h at_p))
    | inr differs ↦
        let next = next_is_count game p q own h ahead (w.fair.honest q own at_q) differs (order p q h own at_p at_q differs) in
        let all = have_all game logs w size turns order e p q h own at_p at_q (inside p lt) (inside q below) differs in
        more (next_place game p h q) (length (got_of q h)) (made_count own) next all (all_made game logs w size turns order e q own at_q)
  ]
    where
      least : (a b : ℕ) → a ≡ b → b ≡ 400 → 400 ≤ a
      least a b f g = omega (arith, f, g)

      more : (a b c : ℕ) → a ≡ b → c ≤ b → c ≡ 400 → 400 ≤ a
      more a b c f le g = omega (arith, f, le, g)

  -- so it resolves each turn
  all_resolved : (p q t : ℕ) (h own : List Entry) → log_of logs p ≡ Some h → log_of logs q ≡ Some own → p < 8 → q < 8 → t < 200 → (m : Move) × (resolved game p h q t ≡ Some m)
  all_resolved p q t h own at_p at_q lt below early =
      let turn : t < game.turns = omega (arith, early, turns) in
      let fits = reveal_place-fits game t turn in
      let next = all_next p q h own at_p at_q lt below in
      some_of (resolved game p h q t) ((resolved_below game p q t h ahead turn).1 (under (reveal_place game t) game.turns (next_place game p h q) fits turns next))
    where
      under : (a b c : ℕ) → a < 2 * b → b ≡ 200 → 400 ≤ c → a < c
      under a b c f g le = omega (arith, f, g, le)

  -- by the move that the player chose
  module _ (q t : ℕ) (own : List Entry) (at_q : log_of logs q ≡ Some own) (below : q < 8) (early : t < 200) where
    opening : (o : Opening) × (slice_get (chosen q own) t ≡ Some o)
    opening = some_at (chosen q own) t (let long = own_chosen game logs w size turns order e q own at_q in omega (arith, long, early))

    is_chosen : (p : ℕ) (h : List Entry) → log_of logs p ≡ Some h → p < 8 → (m : Move) → resolved game p h q t ≡ Some m → m ≡ opening.0.mv
    is_chosen p h at_p lt m came = elim (cases_eq q p) [
      | inl same ↦
          let logs_same : Some h ≡ Some own = sym at_p ∙ ap (log_of logs) (sym same) ∙ at_q in
          let one : h ≡ own = cc in
          let mine : slice_get (known game q own q).moves t ≡ Some m = subst (λ (n : ℕ). slice_get (known game n own q).moves t ≡ Some m) (sym same) (subst (λ (l : List Entry). resolved game p l q t ≡ Some m) one came) in
          let within : t < resolved_count game q own q = slice_get_within (known game q own q).moves t m mine in
          let moves : slice_get (take (resolved_count game q own q) (map (λ o. o.mv) (chosen q own))) t ≡ Some m =
          ap (λ (ms : List Move). slice_get ms t) (sym (own_moves game q own ahead (w.fair.honest q own at_q))) ∙ mine in
          let chose : slice_get (map (λ o. o.mv) (chosen q own)) t ≡ Some m = sym (slice_get_take (resolved_count game q own q) t (map (λ o. o.mv) (chosen q own)) within) ∙ moves in
          let wanted : slice_get (map (λ o. o.mv) (chosen q own)) t ≡ Some opening.0.mv = slice_get_map (λ o. o.mv) (chosen q own) t opening.0 opening.1 in
          let both : Some m ≡ Some opening.0.mv = sym chose ∙ wanted in
          cc
      | inr differs ↦
          let accepted = (fair_holds game logs ahead w.fair).accepted p q t h own m at_p at_q differs came in
          let both : Some accepted.0 ≡ Some opening.0 = sym accepted.1 ∙ opening.1 in
          let one : accepted.0 ≡ opening.0 = cc in
          sym accepted.2 ∙ ap (λ (o : Opening). o.mv) one
    ]

    owner_is : (i : ℕ) → i < 8 → item_or (audited_owners game logs) i None ≡ Some i
    owner_is i lt =
        item_range (owner_by logs) 0 (players_of game) i None (inside i lt) ∙ ap (owner_by logs) (omega arith) ∙ cond-true (has_log logs i) (Some i) None (w.all i (inside i lt))

    log_is : (i : ℕ) (h : List Entry) → i < 8 → log_of logs i ≡ Some h → item_or (audited_logs game logs) i [] ≡ h
    log_is i h lt at = item_range (entries_by logs) 0 (players_of game) i [] (inside i lt) ∙ ap (entries_by logs) (omega arith) ∙ entries_at logs i h at

    given_is : (i : ℕ) (h : List Entry) → i < 8 → log_of logs i ≡ Some h → resolved_at game (audited_owners game logs) (audited_logs game logs) q t i ≡ resolved game i h q t
    given_is i h lt at =
        ap (λ (o : Option ℕ). resolved_by game o (item_or (audited_logs game logs) i []) q t) (owner_is i lt) ∙ ap (λ (l : List Entry). resolved game i l q t) (log_is i h lt at)

    many : length (audited_logs game logs) ≡ 8
    many = length-map-range_with_len (entries_by logs) 0 (players_of game) ∙ size

    given_all : (i : ℕ) → i < 8 → (m : Move) → resolved_at game (audited_owners game logs) (audited_logs game logs) q t i ≡ Some m → m ≡ opening.0.mv
    given_all i lt m came = let h = log_there game logs w size turns order i lt in is_chosen i h.0 h.1 lt m (sym (given_is i h.0 lt h.1) ∙ came)

    pub agrees : is_some (agreed_move game (audited_owners game logs) (audited_logs game logs) q t) ≡ true
    unfolding agreed_move
    agrees =
        let given : List Move = moves_given game (audited_owners game logs) (audited_logs game logs) q t in
        let r = all_resolved q q t own own at_q at_q below below early in
        let first : resolved_at game (audited_owners game logs) (audited_logs game logs) q t q ≡ Some opening.0.mv =
        given_is q own below at_q ∙ r.1 ∙ ap (λ (m : Move). Some m) (is_chosen q own at_q below r.0 r.1) in
        let ranged : Has (range_with_len 0 (length (audited_logs game logs))) q = Has_range 0 (length (audited_logs game logs)) q (omega arith) (omega (arith, below, many)) in
        one_is opening.0.mv given
        (given_each (resolved_at game (audited_owners game logs) (audited_logs game logs) q t) opening.0.mv 0 (length (audited_logs game logs)) (λ i le lt m came. given_all i (omega (arith, lt, many)) m came))
        (Has_filter_map (resolved_at game (audited_owners game logs) (audited_logs game logs) q t) (range_with_len 0 (length (audited_logs game logs))) q opening.0.mv ranged first)

  -- all moves of a player
  whole : (q : ℕ) → q < 8 → length (agreed_moves game (audited_owners game logs) (audited_logs game logs) q) ≡ game.turns
  unfolding agreed_moves
  whole q below =
      let own = log_there game logs w size turns order q below in
      filter_whole (agreed_move game (audited_owners game logs) (audited_logs game logs) q) 0 game.turns (λ t le lt. agrees q t own.0 own.1 below (omega (arith, lt, turns)))

  -- and so it is told where each stands
  told : (q : ℕ) → is_some (world_line game logs q) ≡ true
  told q =
      let all : are_whole game (all_agreed_moves game (audited_owners game logs) (audited_logs game logs)) ≡ true =
      all_over (agreed_moves game (audited_owners game logs) (audited_logs game logs)) game.turns 0 (players_of game) (λ k le lt. whole k (omega (arith, lt, size))) in
      ap is_some
      (cond-true (are_whole game (all_agreed_moves game (audited_owners game logs) (audited_logs game logs)))
      (Some (line_of (lockstep game (all_agreed_moves game (audited_owners game logs) (audited_logs game logs)) game.turns q))) None all)

  pub lines_told : length (world_lines game logs) ≡ 8
  lines_told = filter_whole (world_line game logs) 0 (players_of game) (λ q le lt. told q) ∙ size
