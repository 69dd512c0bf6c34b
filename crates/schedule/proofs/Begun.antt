-- Begun: a table before the first step.
use Rattle.std.proofs.Common.{◌≡◌, ℕ, zero, suc, ◌+◌, Bool, true, false, List, [], ◌∷◌, length, refl, sym, ap, ◌∙◌, subst, arith, replicate, Option, Some, None}
use Rattle.std.specs.Prelude.{if◌then◌else◌, map}
use Rattle.std.specs.List.{range_with_len}
use Rattle.std.proofs.lemmas.List.{length-replicate}
use Rattle.std.proofs.lemmas.List.FromFn.{length-map-range_with_len}
use Rattle.definitions.specs.declared.logs.Entry.{Entry}
use Rattle.definitions.specs.Lists.{item_or}
use Rattle.definitions.specs.World.{Game, players_of}
use Rattle.definitions.specs.Steps.{Logs}
use Rattle.peer_core.specs.Views.{PeerState}
use Rattle.schedule.specs.declared.tallies.Tally.{Tally}
use Rattle.schedule.specs.Seats.{first_seat, first_seats, log_at}
use Rattle.schedule.specs.Steps.{first_log, first_logs, is_hostile}
use Rattle.schedule.specs.Tables.{AreFair, AreSeated, IsSeated, IsTable, TableState, logs_at}
use Rattle.schedule.specs.Tallies.{no_tally}
use Rattle.schedule.proofs.Fairness.{fair_first}

logs_begun : (game : Game) (hostile : ℕ) (ns : List ℕ) → logs_at (map (first_seat game hostile) ns) ≡ map (first_log hostile) ns
logs_begun game hostile [] = refl
logs_begun game hostile (n ∷ ns) =
    let first : Option (List Entry) → Logs = λ l. l ∷ logs_at (map (first_seat game hostile) ns) in
    ap first (go (is_hostile hostile n)) ∙ ap (λ (ls : Logs). first_log hostile n ∷ ls) (logs_begun game hostile ns)
  where
    go : (b : Bool) → log_at (if b then None else Some (record { game = game; me = n; entries = [] })) ≡ (if b then None else Some [])
    go true = refl
    go false = refl

one_begun : (game : Game) (hostile n : ℕ) (s : PeerState) → first_seat game hostile n ≡ Some s → IsSeated game n s
one_begun game hostile n s e = go (is_hostile hostile n) e
  where
    go : (b : Bool) → (if b then None else Some (record { game = game; me = n; entries = [] })) ≡ Some s → IsSeated game n s
    go true e = absurd (let none : None ≡ Some s = e in cc)
    go false e =
        let blank : PeerState = record { game = game; me = n; entries = [] } in
        let same : blank ≡ s = cc in
        record { game_is = ap (λ (x : PeerState). x.game) (sym same); player_is = ap (λ (x : PeerState). x.me) (sym same) }

seats_begun : (game : Game) (hostile a n q : ℕ) (s : PeerState) → item_or (map (first_seat game hostile) (range_with_len a n)) q None ≡ Some s → IsSeated game (a + q) s
seats_begun game hostile a zero q s e = absurd (let none : None ≡ Some s = e in cc)
seats_begun game hostile a (suc n) zero s e = let here : a ≡ a + 0 = omega arith in subst (λ k. IsSeated game k s) here (one_begun game hostile a s e)
seats_begun game hostile a (suc n) (suc q) s e = let later : a + 1 + q ≡ a + suc q = omega arith in subst (λ k. IsSeated game k s) later (seats_begun game hostile (a + 1) n q s e)

seated_begun : (game : Game) (hostile : ℕ) → AreSeated game (first_seats game hostile)
seated_begun game hostile = record {
  one_each = length-map-range_with_len (first_seat game hostile) 0 (players_of game);
  each = λ q s e. let same : 0 + q ≡ q = omega arith in subst (λ k. IsSeated game k s) same (seats_begun game hostile 0 (players_of game) q s e);
}

pub begun_table : (game copy : Game) (hostile : ℕ) (seats : List (Option PeerState)) (tallies : List Tally) → copy ≡ game → seats ≡ first_seats game hostile → tallies ≡ replicate (players_of game) no_tally → IsTable copy seats tallies
begun_table game copy hostile seats tallies c s t =
    let IsGame : Game → Type 0 = λ g. IsTable g seats tallies in
    let Are : List (Option PeerState) → Type 0 = λ ss. IsTable game ss tallies in
    let Fair : Logs → Type 0 = λ ls. AreFair game ls in
    subst IsGame (sym c) (subst Are (sym s) (record {
      seated = seated_begun game hostile;
      fair = subst Fair (sym (logs_begun game hostile (range_with_len 0 (players_of game)))) (fair_first game hostile);
      one_tally = ap (λ (xs : List Tally). length xs) t ∙ length-replicate (players_of game) no_tally;
    }))

pub begun_state : (game copy : Game) (hostile : ℕ) (seats : List (Option PeerState)) (tallies : List Tally) → copy ≡ game → seats ≡ first_seats game hostile → tallies ≡ replicate (players_of game) no_tally →
    ◌≡◌ {A = TableState} (record { game = copy; logs = logs_at seats; tallies = tallies }) (record { game = game; logs = first_logs game hostile; tallies = replicate (players_of game) no_tally })
begun_state game copy hostile seats tallies c s t =
    let at_game : Game → TableState = λ g. record { game = g; logs = logs_at seats; tallies = tallies } in
    let at_logs : Logs → TableState = λ ls. record { game = game; logs = ls; tallies = tallies } in
    let at_tallies : List Tally → TableState = λ ts. record { game = game; logs = first_logs game hostile; tallies = ts } in
    ap at_game c ∙ ap at_logs (ap logs_at s ∙ logs_begun game hostile (range_with_len 0 (players_of game))) ∙ ap at_tallies t
