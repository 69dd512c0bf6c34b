-- Runs: a round, and a whole run.
use Rattle.std.proofs.Common.{◌≡◌, ℕ, ◌+◌, ◌≤◌, Bool, true, false, refl, sym, ap, subst, ◌∙◌, List, arith}
use Rattle.std.specs.Prelude.{Option}
use Rattle.std.proofs.lemmas.Bool.{false≢true}
use Rattle.definitions.specs.Logs.{chosen}
use Rattle.pilots.specs.Plans.{Plan}
use Rattle.peer_core.specs.Views.{PeerState}
use Rattle.socket_station.specs.Items.{Item}
use Rattle.loop_rules.specs.Licence.{is_licensed}
use Rattle.ready_loop.specs.declared.settling.Settled.{Settled}
use Rattle.ready_loop.specs.declared.settling.Settled.TheVariants as S
use Rattle.ready_loop.specs.declared.polling.Round.{Round}
use Rattle.ready_loop.specs.declared.polling.Round.TheVariants as R
use Rattle.loop_ends.specs.declared.ends.Ended.{Ended}
use Rattle.ready_loop.specs.States.{LoopState, view_of}
use Rattle.own_moves.specs.Choices.{Chooser}
use Rattle.ready_loop.specs.declared.stops.Stop.{Stop}
use Rattle.ready_loop.specs.declared.stops.Stop.TheVariants as T
use Rattle.ready_loop.specs.Stops.{StandsSettled, Refuses, is_idle, settled_of}
use Rattle.ready_loop.specs.Settling.{IsReady, ChoosesIn, Settles}
use Rattle.ready_loop.specs.Polling.{IsLicensedToPoll, GoesBy, Polls, polls_in, round_of, is_round_on, ended_of, ended_at, StandsRound, RefusesRound, Rounds, StandsEnded, RefusesEnded, Ends}
use Rattle.own_moves.proofs.Choices.{chose_none, chose_still}
use Rattle.ready_loop.proofs.Choices.{chooses_then}
use Rattle.ready_loop.proofs.Polled.{by_then, by_none, by_still}
use Rattle.ready_loop.proofs.Passing.{not_idle}

-- ---- a round

idle_is : (s : Settled) → is_idle s ≡ true → s ≡ S.Idle
idle_is S.Idle e = refl
idle_is S.Done e = absurd (false≢true e)
idle_is (S.Caught f) e = absurd (false≢true e)
idle_is S.KeepFault e = absurd (false≢true e)
idle_is (S.OwnMove turn fault) e = absurd (false≢true e)

none_made : (s : Settled) → is_idle s ≡ false → polls_in (round_of s) ≡ 0
none_made S.Idle e = absurd (false≢true (sym e))
none_made S.Done e = refl
none_made (S.Caught f) e = refl
none_made S.KeepFault e = refl
none_made (S.OwnMove turn fault) e = refl

ends_round : (plan : Option Plan) (s : Settled) (m : LoopState) → is_idle s ≡ false → StandsSettled plan s m → StandsRound plan (round_of s) m
ends_round plan S.Idle m e w = absurd (false≢true (sym e))
ends_round plan S.Done m e w = w
ends_round plan (S.Caught f) m e w = w
ends_round plan S.KeepFault m e w = w
ends_round plan (S.OwnMove turn fault) m e w = w

pub refuses_round : (s : Settled) (refused : Bool) → Refuses s refused → RefusesRound (round_of s) refused
refuses_round S.Idle refused w = w
refuses_round S.Done refused w = w
refuses_round (S.Caught f) refused w = w
refuses_round S.KeepFault refused w = w
refuses_round (S.OwnMove turn fault) refused w = w

pub rounds_ended : (by to : Chooser) (s : Settled) (q : Bool) (round : Round) (before after : List Item) (l m : LoopState) → Settles by to s before after l m → q ≡ is_idle s → q ≡ false → round ≡ round_of s → Rounds by to round before after l m
rounds_ended by to s q round before after l m w is none answer =
    let no = sym is ∙ none in
    subst (λ (r : Round). Rounds by to r before after l m) (sym answer) (record {
      refused = w.refused;
      refuses = refuses_round s w.refused w.refuses;
      choices = w.choices;
      goes = subst (λ (n : ℕ). GoesBy n before after l m) (sym (none_made s no)) (by_none before after l m w.grows);
      stands = ends_round by.plan s m no w.stands;
    })

pub rounds_stopped : (by to : Chooser) (stop : Stop) (round : Round) (before after : List Item) (l m : LoopState) → Settles by to (settled_of stop) before after l m → round ≡ round_of (settled_of stop) → Rounds by to round before after l m
rounds_stopped by to stop round before after l m w answer = rounds_ended by to (settled_of stop) false round before after l m w (sym (not_idle stop)) refl answer

settles_idle : (by to : Chooser) (s : Settled) (q : Bool) (before after : List Item) (l m : LoopState) → Settles by to s before after l m → q ≡ is_idle s → q ≡ true → Settles by to S.Idle before after l m
settles_idle by to s q before after l m w is sure = subst (λ (x : Settled). Settles by to x before after l m) (idle_is s (sym is ∙ sure)) w

pub poll_licensed : (by to : Chooser) (s : Settled) (q : Bool) (before after : List Item) (l m : LoopState) → Settles by to s before after l m → q ≡ is_idle s → q ≡ true → IsLicensedToPoll after m
poll_licensed by to s q before after l m w is sure =
    let v = settles_idle by to s q before after l m w is sure in
    record { told = v.grows.told; whole = v.stands; licensed = sym v.licensed }

-- a poll chooses nothing
polled_choices : (by to : Chooser) (s : Settled) (q done : Bool) (before mid after : List Item) (l m n : LoopState) → Settles by to s before mid l m → q ≡ is_idle s → q ≡ true → Polls done mid after m n → ChoosesIn by to false l n
polled_choices by to s q done before mid after l m n w is sure p =
    let v = settles_idle by to s q before mid l m w is sure in
    chose_still l.peer.game l.peer.me by to false l.peer.entries m.peer.entries n.peer.entries (subst (λ (b : Bool). ChoosesIn by to b l m) v.refuses v.choices)
    (ap (λ (x : PeerState). chosen l.peer.me x.entries) p.peer)

pub rounds_fault : (by to : Chooser) (s : Settled) (q done : Bool) (before mid after : List Item) (l m n : LoopState) → Settles by to s before mid l m → q ≡ is_idle s → q ≡ true → Polls done mid after m n → done ≡ false → Rounds by to R.PollFault before after l n
rounds_fault by to s q done before mid after l m n w is sure p none =
    let v = subst (λ (b : Bool). Polls b mid after m n) none p in
    record {
      refused = false;
      refuses = refl;
      choices = polled_choices by to s q done before mid after l m n w is sure p;
      goes = by_then 0 0 before mid after l m n (by_none before mid l m w.grows) v.goes;
      stands = v.stands;
    }

pub rounds_on : (by to : Chooser) (s : Settled) (q done : Bool) (before mid after : List Item) (l m n : LoopState) → Settles by to s before mid l m → q ≡ is_idle s → q ≡ true → Polls done mid after m n → done ≡ true → Rounds by to R.On before after l n
rounds_on by to s q done before mid after l m n w is sure p did =
    let v = subst (λ (b : Bool). Polls b mid after m n) did p in
    record {
      refused = false;
      refuses = refl;
      choices = polled_choices by to s q done before mid after l m n w is sure p;
      goes = by_then 0 1 before mid after l m n (by_none before mid l m w.grows) v.goes;
      stands = v.stands;
    }

-- ---- a run

-- so many polls are made, and so many are left
pub record Running (by to : Chooser) (polls left : ℕ) (before items : List Item) (l m : LoopState) : Type 0 where
  pub choices : ChoosesIn by to false l m
  pub made : ℕ
  pub sum : made + left ≡ polls
  pub goes : GoesBy made before items l m
  pub ready : IsReady items m

pub runs_first : (by : Chooser) (polls : ℕ) (items : List Item) (l : LoopState) → IsReady items l → Running by by polls polls items items l l
runs_first by polls items l w = record { choices = chose_none l.peer.game l.peer.me by l.peer.entries l.peer.entries refl; made = 0; sum = omega arith; goes = by_still items l w.told; ready = w }

on_is : (round : Round) → is_round_on round ≡ true → round ≡ R.On
on_is R.On e = refl
on_is R.Done e = absurd (false≢true e)
on_is (R.Caught f) e = absurd (false≢true e)
on_is R.PollFault e = absurd (false≢true e)
on_is R.KeepFault e = absurd (false≢true e)
on_is (R.OwnMove turn fault) e = absurd (false≢true e)

pub runs_on : (by mid to : Chooser) (polls left rest : ℕ) (round : Round) (q : Bool) (before items after : List Item) (l m n : LoopState) → Running by mid polls left before items l m → Rounds mid to round items after m n → q ≡ is_round_on round → q ≡ true →
    rest + 1 ≡ left → Running by to polls rest before after l n
runs_on by mid to polls left rest round q before items after l m n w r is sure less =
    let on = subst (λ (x : Round). Rounds mid to x items after m n) (on_is round (sym is ∙ sure)) r in
    record {
      choices = chooses_then by mid to false l m n w.goes.setting w.choices (subst (λ (b : Bool). ChoosesIn mid to b m n) on.refuses on.choices);
      made = w.made + 1;
      sum = (let s = w.sum in omega (arith, s, less));
      goes = by_then w.made 1 before items after l m n w.goes on.goes;
      ready = record { told = on.goes.told; idle = on.stands.idle };
    }

pub none_in : (round : Round) → is_round_on round ≡ false → polls_in round ≡ 0
none_in R.On e = absurd (false≢true (sym e))
none_in R.Done e = refl
none_in (R.Caught f) e = refl
none_in R.PollFault e = refl
none_in R.KeepFault e = refl
none_in (R.OwnMove turn fault) e = refl

pub refuses_end : (round : Round) (refused : Bool) → RefusesRound round refused → RefusesEnded (ended_of round) refused
refuses_end R.On refused w = w
refuses_end R.Done refused w = w
refuses_end (R.Caught f) refused w = w
refuses_end R.PollFault refused w = w
refuses_end R.KeepFault refused w = w
refuses_end (R.OwnMove turn fault) refused w = w

pub ends_in : (plan mid : Option Plan) (polls made : ℕ) (round : Round) (m : LoopState) → mid ≡ plan → is_round_on round ≡ false → StandsRound mid round m → StandsEnded plan polls made (ended_of round) m
ends_in plan mid polls made R.On m e off w = absurd (false≢true (sym off))
ends_in plan mid polls made R.Done m e off w = w
ends_in plan mid polls made (R.Caught f) m e off w = w
ends_in plan mid polls made R.PollFault m e off w = w
ends_in plan mid polls made R.KeepFault m e off w = w
ends_in plan mid polls made (R.OwnMove turn fault) m e off w = subst (λ (p : Option Plan). StandsSettled p (S.OwnMove turn fault) m) e w

pub run_stops : (by mid to : Chooser) (polls left : ℕ) (round : Round) (ended : Ended) (q : Bool) (before items after : List Item) (l m n : LoopState) → Running by mid polls left before items l m → Rounds mid to round items after m n → q ≡ is_round_on round → q ≡ false →
    ended ≡ ended_of round → Ends by to polls ended before after l n
run_stops by mid to polls left round ended q before items after l m n w r is none answer =
    let off = sym is ∙ none in
    subst (λ (x : Ended). Ends by to polls x before after l n) (sym answer) (record {
      refused = r.refused;
      refuses = refuses_end round r.refused r.refuses;
      choices = chooses_then by mid to r.refused l m n w.goes.setting w.choices r.choices;
      made = w.made;
      few = (let s = w.sum in omega (arith, s));
      goes = subst (λ (k : ℕ). GoesBy k before after l n) (let z = none_in round off in let e : w.made + polls_in round ≡ w.made = omega (arith, z) in e) (by_then w.made (polls_in round) before items after l m n w.goes r.goes);
      stands = ends_in by.plan mid.plan polls w.made round n w.choices.plan off r.stands;
    })

not_on : (stop : Stop) → is_round_on (round_of (settled_of stop)) ≡ false
not_on T.Done = refl
not_on (T.Caught f) = refl
not_on T.KeepFault = refl
not_on (T.OwnMove turn fault) = refl

pub run_stopped : (by mid to : Chooser) (polls left : ℕ) (stop : Stop) (ended : Ended) (before items after : List Item) (l m n : LoopState) → Running by mid polls left before items l m → Settles mid to (settled_of stop) items after m n → ended ≡ ended_at (settled_of stop) →
    Ends by to polls ended before after l n
run_stopped by mid to polls left stop ended before items after l m n w r answer =
    run_stops by mid to polls left (round_of (settled_of stop)) ended false before items after l m n w (rounds_stopped mid to stop (round_of (settled_of stop)) items after m n r refl) (sym (not_on stop)) refl answer

pub ends_at : (plan mid : Option Plan) (polls made : ℕ) (s : Settled) (m : LoopState) → mid ≡ plan → made ≡ polls → is_idle s ≡ is_licensed (view_of m) → StandsSettled mid s m → StandsEnded plan polls made (ended_at s) m
ends_at plan mid polls made S.Idle m e all licensed w = record { whole = w; all = all; licensed = sym licensed }
ends_at plan mid polls made S.Done m e all licensed w = w
ends_at plan mid polls made (S.Caught f) m e all licensed w = w
ends_at plan mid polls made S.KeepFault m e all licensed w = w
ends_at plan mid polls made (S.OwnMove turn fault) m e all licensed w = subst (λ (p : Option Plan). StandsSettled p (S.OwnMove turn fault) m) e w

pub run_ends : (by mid to : Chooser) (polls left : ℕ) (s : Settled) (ended : Ended) (before items after : List Item) (l m n : LoopState) → Running by mid polls left before items l m → left ≤ 0 → Settles mid to s items after m n → ended ≡ ended_at s →
    Ends by to polls ended before after l n
run_ends by mid to polls left s ended before items after l m n w le r answer =
    let all : w.made ≡ polls = (let sum = w.sum in omega (arith, sum, le)) in
    subst (λ (x : Ended). Ends by to polls x before after l n) (sym answer) (record {
      refused = r.refused;
      refuses = refuses_end (round_of s) r.refused (refuses_round s r.refused r.refuses);
      choices = chooses_then by mid to r.refused l m n w.goes.setting w.choices r.choices;
      made = w.made;
      few = omega (arith, all);
      goes = subst (λ (k : ℕ). GoesBy k before after l n) (let e : w.made + 0 ≡ w.made = omega arith in e) (by_then w.made 0 before items after l m n w.goes (by_none items after m n r.grows));
      stands = ends_at by.plan mid.plan polls w.made s n w.choices.plan all r.licensed r.stands;
    })
