-- Lasts: what eight players have chosen and got at the end of a match.
use Rattle.std.proofs.Common.{◌≡◌, inl, inr, ℕ, ◌+◌, ◌<◌, ◌≤◌, List, Some, length, sym, ◌∙◌, subst, arith}
use Rattle.std.proofs.lemmas.Bool.{cases_eq}
use Rattle.definitions.specs.declared.logs.Entry.{Entry}
use Rattle.definitions.specs.Honest.{made_count}
use Rattle.definitions.specs.Logs.{chosen, got_of}
use Rattle.definitions.specs.Steps.{Logs, log_of}
use Rattle.definitions.specs.World.{Game, players_of}
use Rattle.definition_laws.proofs.OwnLog.{own_honest}
use Rattle.schedule.specs.declared.stands.Stand.TheVariants.{Finished}
use Rattle.schedule.specs.Stands.{AreAllDone, stand}
use Rattle.schedule.proofs.Idling.{finished_done}
use Rattle.make_command.proofs.Counted.{chosen_by, chosen_in, got_by, got_from_all, got_in_all}
use Rattle.make_command.proofs.Fair.{AreSound}
use Rattle.make_command.proofs.Going.{chosen_is, got_is, got_self, log_there}
use Rattle.make_command.proofs.InOrder.{InOrder, fits_few}
use Rattle.make_command.proofs.Standing.{HaveAll, Says, says}
use Rattle.make_command.proofs.Totals.{all_200, all_2800, all_400, but_at, but_off, but_on, total, total_but, total_same}

module _ (game : Game) (logs : Logs) (w : AreSound game logs) (size : players_of game ≡ 8) (turns : game.turns ≡ 200) (order : InOrder logs) (e : stand game logs ≡ Finished) where
  pub have_all : HaveAll game logs
  have_all = subst (Says game logs) e (says game logs w order)

  done : AreAllDone game logs
  done = finished_done game logs w.session.ahead.0 w.fair e

  pub all_made : (p : ℕ) (h : List Entry) → log_of logs p ≡ Some h → made_count h ≡ 400
  all_made p h at = let all = (done p h at).1.0 in omega (arith, all, turns)

  pub own_chosen : (p : ℕ) (h : List Entry) → log_of logs p ≡ Some h → length (chosen p h) ≡ 200
  own_chosen p h at =
      let own = own_honest game p h w.session.ahead.0 (w.fair.honest p h at) in
      halves (length (chosen p h)) own.c own.r (made_count h) game.turns own.counted own.before own.enough own.few (all_made p h at) turns
    where
      halves : (n c r k t : ℕ) → k ≡ c + r → r ≤ c → c ≤ n → n ≤ t → k ≡ 400 → t ≡ 200 → n ≡ 200
      halves n c r k t sum before enough few all turns = omega (arith, sum, before, enough, few, all, turns)

  all_chosen : (p : ℕ) → p < 8 → chosen_by logs p ≡ 200
  all_chosen p lt = let h = log_there game logs w size turns order p lt in chosen_is game logs w size turns order p h.0 h.1 ∙ own_chosen p h.0 h.1

  all_got : (p : ℕ) → p < 8 → (q : ℕ) → q < 8 → got_by logs p q ≡ but_at p 400 q
  all_got p lt q below = elim (cases_eq q p) [
    | inl same ↦ got_self game logs w size turns order p q same ∙ sym (but_on p 400 q same)
    | inr differs ↦
        let h = log_there game logs w size turns order p lt in
        let own = log_there game logs w size turns order q below in
        let few = fits_few q own.0 h.0 (order p q h.0 own.0 h.1 own.1 differs) in
        let all = have_all p q h.0 own.0 h.1 own.1 (omega (arith, lt, size)) (omega (arith, below, size)) differs in
        got_is game logs w size turns order p q h.0 h.1 differs ∙ whole (length (got_of q h.0)) (made_count own.0) few all (all_made q own.0 own.1) ∙ sym (but_off p 400 q differs)
  ]
    where
      whole : (n k : ℕ) → n ≤ k → k ≤ n → k ≡ 400 → n ≡ 400
      whole n k few all e = omega (arith, few, all, e)

  pub chosen_whole : chosen_in logs ≡ 1600
  chosen_whole = total_same (chosen_by logs) (λ _. 200) 8 all_chosen ∙ all_200

  pub got_whole : got_in_all logs ≡ 22400
  got_whole = total_same (got_from_all logs) (λ _. 2800) 8 each ∙ all_2800
    where
      each : (p : ℕ) → p < 8 → got_from_all logs p ≡ 2800
      each p lt = total_same (got_by logs p) (but_at p 400) 8 (all_got p lt) ∙ rest (total (but_at p 400) 8) (total_but p 400 8 lt ∙ all_400)
        where
          rest : (b : ℕ) → b + 400 ≡ 3200 → b ≡ 2800
          rest b e = omega (arith, e)
