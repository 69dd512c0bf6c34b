-- Standing: what the stand of a match says of its logs, where these are fair, in order, and those of all players.
use Rattle.std.proofs.Common.{◌≡◌, ◌⊎◌, inl, inr, ℕ, ◌<◌, ◌≤◌, true, false, List, [], ◌∷◌, Option, None, Some, length, refl, sym, ◌∙◌, ap, subst, arith}
use Rattle.std.specs.Prelude.{find, nat_lt, not}
use Rattle.std.specs.Option.{option_or}
use Rattle.std.proofs.lemmas.Bool.{and_parts, false≢true, ltb-false, ltb-true}
use Rattle.definitions.specs.declared.logs.Entry.{Entry}
use Rattle.definitions.specs.Held.{next_place}
use Rattle.definitions.specs.Honest.{made_count}
use Rattle.definitions.specs.Lists.{first_of}
use Rattle.definitions.specs.Logs.{got_of}
use Rattle.definitions.specs.Needs.{may_choose}
use Rattle.definitions.specs.Steps.{Logs, has_log, log_of}
use Rattle.definitions.specs.World.{Game, players_of}
use Rattle.definitions.proofs.Streams.{find-range, find-range-none}
use Rattle.definition_laws.proofs.ForPeers.{own_next}
use Rattle.schedule.specs.declared.stands.Stand.{Stand}
use Rattle.schedule.specs.declared.stands.Stand.TheVariants.{Behind, Caught, Finished, Held, Moving}
use Rattle.schedule.specs.Stands.{gap_in, gap_of, has_choice, has_finding, has_made, is_ahead_of, is_caught, is_holding, is_moving, is_waited_for, players, stand}
use Rattle.schedule.proofs.Firsts.{first_fails}
use Rattle.make_command.specs.Matches.{is_over}
use Rattle.make_command.proofs.Fair.{AreSound, clean_alone}
use Rattle.make_command.proofs.InOrder.{InOrder, next_is_count}

-- Player p may choose.
pub record MayMove (game : Game) (logs : Logs) (p : ℕ) : Type 0 where
  pub h : List Entry
  pub at : log_of logs p ≡ Some h
  pub may : may_choose game p h ≡ true

-- The frame of this place of q's is next for p, and q made it.
pub record IsNext (game : Game) (logs : Logs) (p q place : ℕ) : Type 0 where
  pub h : List Entry
  pub own : List Entry
  pub at_p : log_of logs p ≡ Some h
  pub at_q : log_of logs q ≡ Some own
  pub other : q ≡ p → ⊥
  pub inside : q < players_of game
  pub place_is : place ≡ length (got_of q h)
  pub low : place < made_count own

-- each player has all frames that the others made
abbrev pub HaveAll : Game → Logs → Type 0
HaveAll game logs = (p q : ℕ) (h own : List Entry) → log_of logs p ≡ Some h → log_of logs q ≡ Some own → p < players_of game → q < players_of game → (q ≡ p → ⊥) →
    made_count own ≤ length (got_of q h)

-- what a stand says: nobody is caught, and nobody is held up by a hostile player
abbrev pub Says : Game → Logs → Stand → Type 0
Says game logs (Caught p) = ⊥
Says game logs (Moving p) = MayMove game logs p
Says game logs (Behind p q place) = IsNext game logs p q place
Says game logs (Held q) = ⊥
Says game logs Finished = HaveAll game logs

pub over_finished : (game : Game) (logs : Logs) (s : Stand) → Says game logs s → is_over s ≡ true → s ≡ Finished
over_finished game logs (Caught p) says over = absurd says
over_finished game logs (Moving p) says over = absurd (false≢true over)
over_finished game logs (Behind p q place) says over = absurd (false≢true over)
over_finished game logs (Held q) says over = absurd says
over_finished game logs Finished says over = refl

some_or : {X : Type 0} (o : Option X) → (o ≡ None) ⊎ ((x : X) × (o ≡ Some x))
some_or None = inl refl
some_or (Some x) = inr (x, refl)

first_or : {X Y : Type 0} (f : X → Option Y) (xs : List X) → (first_of f xs ≡ None) ⊎ ((x : X) × (y : Y) × (f x ≡ Some y) × (first_of f xs ≡ Some y))
first_or f [] = inl refl
first_or {X} {Y} f (x ∷ xs) = go (f x) refl (first_or f xs)
  where
    go : (o : Option Y) → f x ≡ o → (first_of f xs ≡ None) ⊎ ((z : X) × (y : Y) × (f z ≡ Some y) × (first_of f xs ≡ Some y)) →
        (option_or o (first_of f xs) ≡ None) ⊎ ((z : X) × (y : Y) × (f z ≡ Some y) × (option_or o (first_of f xs) ≡ Some y))
    go None t ih = ih
    go (Some y) t ih = inr (x, y, t, refl)

module _ (game : Game) (logs : Logs) (w : AreSound game logs) (order : InOrder logs) where
  not_caught : (p : ℕ) → find (is_caught game logs) (players game) ≡ Some p → ⊥
  not_caught p e = go (log_of logs p) refl (find-range (is_caught game logs) 0 (players_of game) p e).2
    where
      go : (o : Option (List Entry)) → log_of logs p ≡ o → has_finding game o ≡ true → ⊥
      go None at found = absurd (false≢true found)
      go (Some h) at found = absurd (false≢true (sym (ap not (clean_alone game logs p h w at)) ∙ found))

  may_move : (p : ℕ) → find (is_moving game logs) (players game) ≡ Some p → MayMove game logs p
  may_move p e = go (log_of logs p) refl (find-range (is_moving game logs) 0 (players_of game) p e).2
    where
      go : (o : Option (List Entry)) → log_of logs p ≡ o → has_choice game p o ≡ true → MayMove game logs p
      go None at may = absurd (false≢true may)
      go (Some h) at may = record { h = h; at = at; may = may }

  not_held : (q : ℕ) → find (is_holding game logs) (players game) ≡ Some q → ⊥
  not_held q e =
      let there = find-range (is_holding game logs) 0 (players_of game) q e in
      let low = there.1 in
      let has = w.all q (omega (arith, low)) in
      let none = (and_parts (not (has_log logs q)) (is_waited_for game logs q) there.2).0 in
      absurd (false≢true (sym (ap not has) ∙ none))

  -- the first that p lacks is next for it
  next_at : (p q : ℕ) (h : List Entry) → log_of logs p ≡ Some h → find (is_ahead_of game logs p h) (players game) ≡ Some q → IsNext game logs p q (next_place game p h q)
  next_at p q h at_p e =
      let there = find-range (is_ahead_of game logs p h) 0 (players_of game) q e in
      let low = there.1 in
      go (omega (arith, low)) (log_of logs q) refl there.2
    where
      go : q < players_of game → (o : Option (List Entry)) → log_of logs q ≡ o → has_made o (next_place game p h q) ≡ true → IsNext game logs p q (next_place game p h q)
      go inside None at_q e = absurd (false≢true e)
      go inside (Some own) at_q e = record {
        h = h;
        own = own;
        at_p = at_p;
        at_q = at_q;
        other = differs;
        inside = inside;
        place_is = next_is_count game p q own h w.session.ahead.0 (w.fair.honest q own at_q) differs (order p q h own at_p at_q differs);
        low = ltb-true (next_place game p h q) (made_count own) e;
      }
        where
          past : (a b c d : ℕ) → a < d → a ≡ b → b ≡ c → c ≡ d → ⊥
          past a b c d lt e f g = omega (arith, lt, e, f, g)

          -- nobody lacks a frame of its own
          differs : q ≡ p → ⊥
          differs same =
              let both : Some h ≡ Some own = sym at_p ∙ ap (log_of logs) (sym same) ∙ at_q in
              let one : h ≡ own = cc in
              let count : made_count h ≡ made_count own = ap made_count one in
              let all : next_place game p h p ≡ made_count h = own_next game p h w.session.ahead.0 (w.fair.honest p h at_p) in
              let place : next_place game p h q ≡ next_place game p h p = ap (λ (n : ℕ). next_place game p h n) same in
              past (next_place game p h q) (next_place game p h p) (made_count h) (made_count own) (ltb-true (next_place game p h q) (made_count own) e) place all count

  have_all : first_of (gap_of game logs) (players game) ≡ None → HaveAll game logs
  have_all none p q h own at_p at_q in_p in_q differs =
      let no_gap = ap (gap_in game logs p) (sym at_p) ∙ first_fails (gap_of game logs) 0 (players_of game) p none (omega arith) (omega (arith, in_p)) in
      elim (some_or (find (is_ahead_of game logs p h) (players game))) [
        | inl missing ↦
            let behind = find-range-none (is_ahead_of game logs p h) 0 (players_of game) q missing (omega arith) (omega (arith, in_q)) in
            let past : nat_lt (next_place game p h q) (made_count own) ≡ false = ap (λ (o : Option (List Entry)). has_made o (next_place game p h q)) (sym at_q) ∙ behind in
            let count = next_is_count game p q own h w.session.ahead.0 (w.fair.honest q own at_q) differs (order p q h own at_p at_q differs) in
            subst (λ (n : ℕ). made_count own ≤ n) count (ltb-false (next_place game p h q) (made_count own) past)
        | inr there ↦ absurd (let found = rw there.1 at no_gap in cc)
      ]

  pub says : Says game logs (stand game logs)
  says = elim (some_or (find (is_caught game logs) (players game))) [
    | inr x ↦ absurd (not_caught x.0 x.1)
    | inl no_caught ↦ elim (some_or (find (is_moving game logs) (players game))) [
      | inr x ↦
          let is : stand game logs ≡ Moving x.0 = rw (no_caught, x.1) refl in
          subst (Says game logs) (sym is) (may_move x.0 x.1)
      | inl no_moving ↦ elim (first_or (gap_of game logs) (players game)) [
        | inr x ↦ elim (some_or (log_of logs x.0)) [
          | inl no_log ↦ absurd (let gap = rw no_log at x.2 in cc)
          | inr h ↦ elim (some_or (find (is_ahead_of game logs x.0 h.0) (players game))) [
            | inl none ↦ absurd (let gap = rw (h.1, none) at x.2 in cc)
            | inr q ↦
                let gap_is : gap_of game logs x.0 ≡ Some (record { who = x.0; whose = q.0; place = next_place game x.0 h.0 q.0 }) = rw (h.1, q.1) refl in
                let first_is : first_of (gap_of game logs) (players game) ≡ Some (record { who = x.0; whose = q.0; place = next_place game x.0 h.0 q.0 }) = x.3 ∙ sym x.2 ∙ gap_is in
                let is : stand game logs ≡ Behind x.0 q.0 (next_place game x.0 h.0 q.0) = rw (no_caught, no_moving, first_is) refl in
                subst (Says game logs) (sym is) (next_at x.0 q.0 h.0 h.1 q.1)
          ]
        ]
        | inl no_gap ↦ elim (some_or (find (is_holding game logs) (players game))) [
          | inr x ↦ absurd (not_held x.0 x.1)
          | inl no_holding ↦
              let is : stand game logs ≡ Finished = rw (no_caught, no_moving, no_gap, no_holding) refl in
              subst (Says game logs) (sym is) (have_all no_gap)
        ]
      ]
    ]
  ]
