-- Stepped: what a step makes of a table's seats and tallies.
use Rattle.std.proofs.Common.{◌≡◌, ℕ, ◌<◌, ◌≤◌, Bool, true, false, List, length, set, get_or, length-set, refl, sym, ap, ◌∙◌, subst, Option, Some, None}
use Rattle.std.specs.Prelude.{if◌then◌else◌, option_map}
use Rattle.definitions.specs.declared.world.Move.{Move}
use Rattle.definitions.specs.declared.openings.Nonce.{Nonce}
use Rattle.definitions.specs.declared.frames.TurnFrame.{TurnFrame}
use Rattle.definitions.specs.declared.logs.Entry.{Entry}
use Rattle.definitions.specs.declared.answers.OwnFault.{OwnFault}
use Rattle.definitions.specs.Lists.{item_or}
use Rattle.definitions.specs.World.{Game, players_of}
use Rattle.definitions.specs.Logs.{chosen}
use Rattle.definitions.specs.Needs.{choice_fault}
use Rattle.definitions.specs.Steps.{AreAuthentic, Logs, after, after_got, has_log, log_after_frame, log_of, made_at, with_log}
use Rattle.definitions.specs.Steps as D
use Rattle.definition_laws.proofs.Deliveries.{after_authentic}
use Rattle.peer_core.specs.Cutting.{may_cut}
use Rattle.peer_core.specs.Views.{PeerState}
use Rattle.schedule.specs.declared.steps.Step.TheVariants as S
use Rattle.schedule.specs.declared.steps.StepAnswer.{StepAnswer}
use Rattle.schedule.specs.declared.steps.StepAnswer.TheVariants.{Got, Stopped, BadCut}
use Rattle.schedule.specs.declared.tallies.Tally.{Tally}
use Rattle.schedule.specs.Seats.{log_with_choice, log_with_frame, log_with_stop, said_at, says_to_choice, says_to_frame, says_to_stop, seat_with}
use Rattle.schedule.specs.Steps.{chosen_or, if_honest}
use Rattle.schedule.specs.Tables.{AreFair, AreSeated, IsStepped, IsTable, TableState, heard_answer, logs_at, logs_with}
use Rattle.schedule.specs.Tallies.{counted, no_tally, tallied}
use Rattle.schedule.proofs.Fairness.{fair_frame}
use Rattle.schedule.proofs.Sitting.{logs_with_seat, said_by_log, seat_read, seated_set}

-- a table of these parts, as contracts see it
abbrev pub table_of : Game → List (Option PeerState) → List Tally → TableState
table_of game seats tallies = record { game = game; logs = logs_at seats; tallies = tallies }

-- the player is one of the session that the table has inside
pub player_inside : (game : Game) (seats : List (Option PeerState)) (tallies : List Tally) (t : TableState) (p : ℕ) → table_of game seats tallies ≡ t → p < players_of t.game → p < players_of game
player_inside game seats tallies t p view lt = let Is : TableState → Type 0 = λ x. p < players_of x.game in subst Is (sym view) lt

-- the seats with one that was read and became this one
pub seats_with : (game : Game) (seats : List (Option PeerState)) (p i : ℕ) (old new : Option PeerState) (log : PeerState → List Entry) → AreSeated game seats → i ≡ p → p < players_of game → old ≡ get_or seats i old → new ≡ seat_with log old →
    set seats i new ≡ set seats p (seat_with log (item_or seats p None))
seats_with game seats p i old new log a e lt there is =
    ap (λ k. set seats k new) e ∙ ap (λ (x : Option PeerState). set seats p x) (is ∙ ap (seat_with log) (seat_read game seats p i old a e there lt))

-- such seats are a table's where the logs with them are fair
pub table_with : (game : Game) (seats : List (Option PeerState)) (tallies more : List Tally) (p i : ℕ) (old new : Option PeerState) (log : PeerState → List Entry) → IsTable game seats tallies → i ≡ p → p < players_of game → old ≡ get_or seats i old →
    new ≡ seat_with log old → AreFair game (with_log (logs_at seats) p (option_map (λ h. log (record { game = game; me = p; entries = h })) (log_of (logs_at seats) p))) → length more ≡ length tallies → IsTable game (set seats i new) more
table_with game seats tallies more p i old new log t e lt there is fair long =
    let Are : List (Option PeerState) → Type 0 = λ ss. IsTable game ss more in
    let Fair : Logs → Type 0 = λ ls. AreFair game ls in
    subst Are (sym (seats_with game seats p i old new log t.seated e lt there is)) (record {
      seated = seated_set game seats p log t.seated;
      fair = subst Fair (sym (logs_with_seat game seats p log t.seated)) fair;
      one_tally = long ∙ t.one_tally;
    })

-- the logs with them
pub logs_read : (game : Game) (seats : List (Option PeerState)) (p i : ℕ) (old new : Option PeerState) (log : PeerState → List Entry) → AreSeated game seats → i ≡ p → p < players_of game → old ≡ get_or seats i old → new ≡ seat_with log old →
    logs_at (set seats i new) ≡ with_log (logs_at seats) p (option_map (λ h. log (record { game = game; me = p; entries = h })) (log_of (logs_at seats) p))
logs_read game seats p i old new log a e lt there is = ap logs_at (seats_with game seats p i old new log a e lt there is) ∙ logs_with_seat game seats p log a

-- what is said at a seat that was read
pub said_read : (game : Game) (seats : List (Option PeerState)) (p i : ℕ) (old : Option PeerState) (says : PeerState → StepAnswer) (said : StepAnswer) → AreSeated game seats → i ≡ p → p < players_of game → old ≡ get_or seats i old → said ≡ said_at old says →
    said ≡ if_honest (log_of (logs_at seats) p) (λ h. says (record { game = game; me = p; entries = h }))
said_read game seats p i old says said a e lt there is =
    is ∙ ap (λ (x : Option PeerState). said_at x says) (seat_read game seats p i old a e there lt) ∙ said_by_log game seats p says a

-- ---- choices and stops

-- neither counts as an answer to a frame
choice_uncounted : (ts : List Tally) (p : ℕ) (mv : Move) (seat : Option PeerState) → tallied ts p (said_at seat (says_to_choice mv)) ≡ ts
choice_uncounted ts p mv None = refl
choice_uncounted ts p mv (Some s) = go (choice_fault s.game s.me s.entries mv)
  where
    go : (o : Option OwnFault) → tallied ts p (chosen_or (length (chosen s.me s.entries)) o) ≡ ts
    go None = refl
    go (Some f) = refl

stop_uncounted : (ts : List Tally) (p keep : ℕ) (seat : Option PeerState) → tallied ts p (said_at seat (says_to_stop keep)) ≡ ts
stop_uncounted ts p keep None = refl
stop_uncounted ts p keep (Some s) = go (may_cut s.entries keep)
  where
    go : (b : Bool) → tallied ts p (if b then Stopped else BadCut) ≡ ts
    go true = refl
    go false = refl

table_again : (game : Game) (ls ms : Logs) (ts us : List Tally) → ls ≡ ms → us ≡ ts → ◌≡◌ {A = TableState} (record { game = game; logs = ls; tallies = ts }) (record { game = game; logs = ms; tallies = us })
table_again game ls ms ts us e f =
    let at_logs : Logs → TableState = λ x. record { game = game; logs = x; tallies = ts } in
    let at_tallies : List Tally → TableState = λ x. record { game = game; logs = ms; tallies = x } in
    ap at_logs e ∙ ap at_tallies (sym f)

pub chosen_stepped : (game : Game) (seats : List (Option PeerState)) (tallies : List Tally) (t : TableState) (p i : ℕ) (mv : Move) (nonce : Nonce) (old new : Option PeerState) (said : StepAnswer) → IsTable game seats tallies →
    table_of game seats tallies ≡ t → i ≡ p → p < players_of t.game → old ≡ get_or seats i old → new ≡ seat_with (log_with_choice mv nonce) old → said ≡ said_at old (says_to_choice mv) →
    IsStepped t (S.Choose p mv nonce) said (table_of game (set seats i new) tallies)
chosen_stepped game seats tallies t p i mv nonce old new said is view e lt there at answer =
    let Is : TableState → Type 0 = λ x. IsStepped x (S.Choose p mv nonce) said (table_of game (set seats i new) tallies) in
    let within = player_inside game seats tallies t p view lt in
    subst Is view (record {
      said_is = said_read game seats p i old (says_to_choice mv) said is.seated e within there answer;
      behind_is = table_again game _ _ tallies _ (logs_read game seats p i old new (log_with_choice mv nonce) is.seated e within there at) (ap (tallied tallies p) answer ∙ choice_uncounted tallies p mv old);
    })

pub stopped_stepped : (game : Game) (seats : List (Option PeerState)) (tallies : List Tally) (t : TableState) (p i keep : ℕ) (old new : Option PeerState) (said : StepAnswer) → IsTable game seats tallies →
    table_of game seats tallies ≡ t → i ≡ p → p < players_of t.game → old ≡ get_or seats i old → new ≡ seat_with (log_with_stop keep) old → said ≡ said_at old (says_to_stop keep) →
    IsStepped t (S.Stop p keep) said (table_of game (set seats i new) tallies)
stopped_stepped game seats tallies t p i keep old new said is view e lt there at answer =
    let Is : TableState → Type 0 = λ x. IsStepped x (S.Stop p keep) said (table_of game (set seats i new) tallies) in
    let within = player_inside game seats tallies t p view lt in
    subst Is view (record {
      said_is = said_read game seats p i old (says_to_stop keep) said is.seated e within there answer;
      behind_is = table_again game _ _ tallies _ (logs_read game seats p i old new (log_with_stop keep) is.seated e within there at) (ap (tallied tallies p) answer ∙ stop_uncounted tallies p keep old);
    })

-- ---- frames

after_frame : (game : Game) (p q : ℕ) (f : TurnFrame) (o : Option (List Entry)) → log_after_frame game p o q (Some f) ≡ option_map (λ h. after_got game p h q f) o
after_frame game p q f None = refl
after_frame game p q f (Some h) = refl

tallied_length : (ts : List Tally) (p : ℕ) (a : StepAnswer) → length (tallied ts p a) ≡ length ts
tallied_length ts p (Got a) = length-set ts p (counted (item_or ts p no_tally) a)
tallied_length ts p _ = refl

pub heard_table : (game : Game) (seats : List (Option PeerState)) (tallies more : List Tally) (t : TableState) (q p i : ℕ) (f : TurnFrame) (old new : Option PeerState) (said : StepAnswer) → 1 ≤ game.ahead → IsTable game seats tallies →
    table_of game seats tallies ≡ t → i ≡ p → p < players_of t.game → old ≡ get_or seats i old → new ≡ seat_with (log_with_frame q f) old → AreAuthentic (logs_with t q p f) → more ≡ tallied tallies i said → IsTable game (set seats i new) more
heard_table game seats tallies more t q p i f old new said d is view e lt there at authentic counts =
    let Are : TableState → Type 0 = λ x. AreAuthentic (logs_with x q p f) in
    let within = player_inside game seats tallies t p view lt in
    let Fair : Option (List Entry) → Type 0 = λ o. AreFair game (with_log (logs_at seats) p o) in
    table_with game seats tallies more p i old new (log_with_frame q f) is e within there at
    (subst Fair (after_frame game p q f (log_of (logs_at seats) p)) (fair_frame game (logs_at seats) q p f d is.fair (subst Are (sym view) authentic)))
    (ap (λ (ts : List Tally). length ts) counts ∙ tallied_length tallies i said)

pub heard_said : (game : Game) (seats : List (Option PeerState)) (tallies : List Tally) (t : TableState) (q p i : ℕ) (f : TurnFrame) (old : Option PeerState) (said : StepAnswer) → IsTable game seats tallies →
    table_of game seats tallies ≡ t → i ≡ p → p < players_of t.game → old ≡ get_or seats i old → said ≡ said_at old (says_to_frame q f) → said ≡ heard_answer t q p f
heard_said game seats tallies t q p i f old said is view e lt there answer =
    let Is : TableState → Type 0 = λ x. said ≡ heard_answer x q p f in
    let within = player_inside game seats tallies t p view lt in
    subst Is view (said_read game seats p i old (says_to_frame q f) said is.seated e within there answer)

pub heard_behind : (game : Game) (seats : List (Option PeerState)) (tallies more : List Tally) (t : TableState) (q p i : ℕ) (f : TurnFrame) (old new : Option PeerState) (said : StepAnswer) → IsTable game seats tallies →
    table_of game seats tallies ≡ t → i ≡ p → p < players_of t.game → old ≡ get_or seats i old → new ≡ seat_with (log_with_frame q f) old → more ≡ tallied tallies i said →
    table_of game (set seats i new) more ≡ record { game = t.game; logs = logs_with t q p f; tallies = tallied t.tallies p said }
heard_behind game seats tallies more t q p i f old new said is view e lt there at counts =
    let Is : TableState → Type 0 = λ x. table_of game (set seats i new) more ≡ record { game = x.game; logs = logs_with x q p f; tallies = tallied x.tallies p said } in
    let within = player_inside game seats tallies t p view lt in
    let with_logs : Option (List Entry) → Logs = λ o. with_log (logs_at seats) p o in
    subst Is view (table_again game _ _ more _
    (logs_read game seats p i old new (log_with_frame q f) is.seated e within there at ∙ ap with_logs (sym (after_frame game p q f (log_of (logs_at seats) p))))
    (ap (λ k. tallied tallies k said) (sym e) ∙ sym counts))

-- a frame that a hostile player made up, and one that an honest one made, leave the logs authentic
pub brought_authentic : (t : TableState) (q p : ℕ) (f : TurnFrame) (b : Bool) → AreAuthentic t.logs → b ≡ has_log t.logs q → b ≡ false → AreAuthentic (logs_with t q p f)
brought_authentic t q p f b a e hostile =
    let Are : Bool → Type 0 = λ x. AreAuthentic (if x then t.logs else with_log t.logs p (log_after_frame t.game p (log_of t.logs p) q (Some f))) in
    subst Are (sym e ∙ hostile) (after_authentic t.game t.logs (D.Hostile q p f) a)

pub delivered_authentic : (t : TableState) (q p place : ℕ) (f : TurnFrame) → AreAuthentic t.logs → Some f ≡ made_at (log_of t.logs q) place → AreAuthentic (logs_with t q p f)
delivered_authentic t q p place f a e =
    let Are : Option TurnFrame → Type 0 = λ o. AreAuthentic (with_log t.logs p (log_after_frame t.game p (log_of t.logs p) q o)) in
    subst Are (sym e) (after_authentic t.game t.logs (D.Deliver q p place) a)
