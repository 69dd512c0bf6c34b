-- Played: settlings and polls, one after the other.
use Rattle.std.proofs.Common.{◌≡◌, ℕ, ◌+◌, Bool, true, false, refl, sym, ap, subst, ◌∙◌, List, [], ◌∷◌, ◌++◌, arith}
use Rattle.std.specs.Prelude.{Option}
use Rattle.std.proofs.lemmas.Bool.{false≢true}
use Rattle.pilots.specs.Plans.{Plan}
use Rattle.datagram_post.specs.Items.{did_by, Item, PollCall, Polled, Failed, poll_item}
use Rattle.own_moves.specs.Choices.{Chooser, ChoosesBy}
use Rattle.own_moves.specs.Making.{IsOwnMove}
use Rattle.own_moves.proofs.Choices.{chose_none, chose_then}
use Rattle.peer_rules.specs.declared.phases.Phase.TheVariants.{Running, PollFault}
use Rattle.post_rules.specs.Views.{Setting, View, settling_after}
use Rattle.post_rules.specs.Histories.{Follows}
use Rattle.post_rules.proofs.Told.{follows_still, follows_one, follows_then}
use Rattle.datagram_loop.specs.declared.settling.Settled.{Settled}
use Rattle.datagram_loop.specs.declared.settling.Settled.TheVariants as S
use Rattle.loop_ends.specs.declared.ends.Ended.{Ended}
use Rattle.loop_ends.specs.declared.ends.Ended.TheVariants as E
use Rattle.datagram_loop.specs.States.{LoopState, setting_of, view_of, in_phase, polled_on, IsReady}
use Rattle.datagram_loop.specs.Settling.{is_idle, Refuses, StandsSettled, Settles}
use Rattle.datagram_loop.specs.Playing.{ended_of, StandsEnded, RefusesEnded, Ends}

-- so many polls were made, with as many left
pub record Runs (by to : Chooser) (polls left : ℕ) (before items : List Item) (l m : LoopState) : Type 0 where
  pub made : ℕ
  pub count : made + left ≡ polls
  pub ready : IsReady m
  pub setting : setting_of m ≡ setting_of l
  pub choices : ChoosesBy l.peer.game l.peer.me by to false l.peer.entries m.peer.entries
  pub follows : Follows (view_of [] (settling_after 0) l) (view_of [] (settling_after made) m) before items

pub runs_first : (by : Chooser) (polls : ℕ) (items : List Item) (l : LoopState) → IsReady l → Runs by by polls polls items items l l
runs_first by polls items l r = record {
  made = 0;
  count = omega arith;
  ready = r;
  setting = refl;
  choices = chose_none l.peer.game l.peer.me by l.peer.entries l.peer.entries refl;
  follows = follows_still (view_of [] (settling_after 0) l) items;
}

-- the choices of one more settling
more_choices : (by mid to : Chooser) (refused : Bool) (polls left : ℕ) (a b : List Item) (l m n : LoopState) → Runs by mid polls left a b l m → ChoosesBy m.peer.game m.peer.me mid to refused m.peer.entries n.peer.entries → ChoosesBy l.peer.game l.peer.me by to refused l.peer.entries n.peer.entries
more_choices by mid to refused polls left a b l m n r c =
    chose_then l.peer.game l.peer.me by mid to refused l.peer.entries m.peer.entries n.peer.entries r.choices
    (subst (λ (s : Setting). ChoosesBy s.game s.me mid to refused m.peer.entries n.peer.entries) r.setting c)

idle_is : (settled : Settled) → is_idle settled ≡ true → settled ≡ S.Idle
idle_is S.Idle e = refl
idle_is S.Done e = absurd (false≢true e)
idle_is (S.Caught f) e = absurd (false≢true e)
idle_is S.KeepFault e = absurd (false≢true e)
idle_is (S.OwnMove turn fault) e = absurd (false≢true e)

pub idle_settles : (by to : Chooser) (settled : Settled) (r : Bool) (b c : List Item) (m n : LoopState) → Settles by to settled b c m n → r ≡ is_idle settled → r ≡ true → Settles by to S.Idle b c m n
idle_settles by to settled r b c m n p is on = subst (λ (s : Settled). Settles by to s b c m n) (idle_is settled (sym is ∙ on)) p

pub idle_running : (by to : Chooser) (b c : List Item) (m n : LoopState) → Settles by to S.Idle b c m n → n.phase ≡ Running
idle_running by to b c m n p = (p.told 0).stands.0.running

-- a poll is made
pub runs_on : (by mid to : Chooser) (polls left next : ℕ) (done : Bool) (a b c d : List Item) (l m n o : LoopState) → Runs by mid polls left a b l m → next + 1 ≡ left → Settles mid to S.Idle b c m n →
    d ≡ c ++ poll_item (did_by done) ∷ [] → o ≡ polled_on done n → done ≡ true → Runs by to polls next a d l o
runs_on by mid to polls left next done a b c d l m n o r less p on same sure =
    let t = p.told r.made in
    let u : View = view_of t.waiting t.settling n in
    let w : View = view_of [] (settling_after (r.made + 1)) n in
    let z = r.count in
    subst (λ (x : LoopState). Runs by to polls next a d l x) (sym (same ∙ ap (λ (x : Bool). polled_on x n) sure)) (record {
      made = r.made + 1;
      count = omega (arith, z, less);
      ready = t.stands.0;
      setting = p.setting ∙ r.setting;
      choices = more_choices by mid to false polls left a b l m n r (subst (λ (x : Bool). ChoosesBy m.peer.game m.peer.me mid to x m.peer.entries n.peer.entries) p.refuses p.choices);
      follows = follows_then (view_of [] (settling_after 0) l) u w a c d
          (follows_then (view_of [] (settling_after 0) l) (view_of [] (settling_after r.made) m) u a b c r.follows t.follows)
          (follows_one u w c d Polled (on ∙ ap (λ (x : Bool). c ++ poll_item (did_by x) ∷ []) sure) t.stands.1 (ap (λ (k : ℕ). view_of [] (settling_after (k + 1)) n) t.polls_same));
    })

-- a poll fails
pub run_unpolled : (by mid to : Chooser) (polls left : ℕ) (done : Bool) (a b c d : List Item) (l m n o : LoopState) → Runs by mid polls left a b l m → Settles mid to S.Idle b c m n →
    d ≡ c ++ poll_item (did_by done) ∷ [] → o ≡ polled_on done n → done ≡ false → Ends by to polls E.PollFault a d l o
run_unpolled by mid to polls left done a b c d l m n o r p on same off =
    let t = p.told r.made in
    let u : View = view_of t.waiting t.settling n in
    let w : View = view_of t.waiting t.settling (in_phase PollFault n) in
    let z = r.count in
    let k = t.polls_same in
    subst (λ (x : LoopState). Ends by to polls E.PollFault a d l x) (sym (same ∙ ap (λ (x : Bool). polled_on x n) off)) (record {
      waiting = t.waiting;
      settling = t.settling;
      follows = follows_then (view_of [] (settling_after 0) l) u w a c d
          (follows_then (view_of [] (settling_after 0) l) (view_of [] (settling_after r.made) m) u a b c r.follows t.follows)
          (follows_one u w c d (Failed PollCall) (on ∙ ap (λ (x : Bool). c ++ poll_item (did_by x) ∷ []) off) t.stands.1 refl);
      setting = p.setting ∙ r.setting;
      refused = p.refused;
      refuses = p.refuses;
      choices = more_choices by mid to p.refused polls left a b l m n r p.choices;
      few = omega (arith, z, k);
      stands = record { fault = refl; kept = t.stands.0.kept; synced = t.stands.0.synced };
    })

stands_other : (plan mid : Option Plan) (polls made : ℕ) (settled : Settled) (v : View) (n : LoopState) → mid ≡ plan → is_idle settled ≡ false → StandsSettled mid settled v n → StandsEnded plan polls made (ended_of settled) v n
stands_other plan mid polls made S.Idle v n e off s = absurd (false≢true (sym off))
stands_other plan mid polls made S.Done v n e off s = s
stands_other plan mid polls made (S.Caught f) v n e off s = s
stands_other plan mid polls made S.KeepFault v n e off s = s
stands_other plan mid polls made (S.OwnMove turn fault) v n e off s = (s.0, subst (λ (p : Option Plan). IsOwnMove p turn fault n.peer) e s.1)

refuses_same : (settled : Settled) (refused : Bool) → Refuses settled refused → RefusesEnded (ended_of settled) refused
refuses_same S.Idle refused r = r
refuses_same S.Done refused r = r
refuses_same (S.Caught f) refused r = r
refuses_same S.KeepFault refused r = r
refuses_same (S.OwnMove turn fault) refused r = r

-- a settling ends it
pub run_stops : (by mid to : Chooser) (polls left : ℕ) (settled : Settled) (r : Bool) (a b c : List Item) (l m n : LoopState) → Runs by mid polls left a b l m → Settles mid to settled b c m n → r ≡ is_idle settled → r ≡ false →
    Ends by to polls (ended_of settled) a c l n
run_stops by mid to polls left settled r a b c l m n w p is off =
    let t = p.told w.made in
    let z = w.count in
    let k = t.polls_same in
    record {
      waiting = t.waiting;
      settling = t.settling;
      follows = follows_then (view_of [] (settling_after 0) l) (view_of [] (settling_after w.made) m) (view_of t.waiting t.settling n) a b c w.follows t.follows;
      setting = p.setting ∙ w.setting;
      refused = p.refused;
      refuses = refuses_same settled p.refused p.refuses;
      choices = more_choices by mid to p.refused polls left a b l m n w p.choices;
      few = omega (arith, z, k);
      stands = stands_other by.plan mid.plan polls t.settling.polls settled (view_of t.waiting t.settling n) n w.choices.plan (sym is ∙ off) t.stands;
    }

stands_last : (plan mid : Option Plan) (polls made : ℕ) (settled : Settled) (v : View) (n : LoopState) → mid ≡ plan → made ≡ polls → StandsSettled mid settled v n → StandsEnded plan polls made (ended_of settled) v n
stands_last plan mid polls made S.Idle v n e all s = record { ready = s.0; all = all; licensed = s.1 }
stands_last plan mid polls made S.Done v n e all s = s
stands_last plan mid polls made (S.Caught f) v n e all s = s
stands_last plan mid polls made S.KeepFault v n e all s = s
stands_last plan mid polls made (S.OwnMove turn fault) v n e all s = (s.0, subst (λ (p : Option Plan). IsOwnMove p turn fault n.peer) e s.1)

-- the last settling, after all polls
pub run_ends : (by mid to : Chooser) (polls left : ℕ) (settled : Settled) (a b c : List Item) (l m n : LoopState) → Runs by mid polls left a b l m → left ≡ 0 → Settles mid to settled b c m n → Ends by to polls (ended_of settled) a c l n
run_ends by mid to polls left settled a b c l m n w none p =
    let t = p.told w.made in
    let z = w.count in
    let k = t.polls_same in
    record {
      waiting = t.waiting;
      settling = t.settling;
      follows = follows_then (view_of [] (settling_after 0) l) (view_of [] (settling_after w.made) m) (view_of t.waiting t.settling n) a b c w.follows t.follows;
      setting = p.setting ∙ w.setting;
      refused = p.refused;
      refuses = refuses_same settled p.refused p.refuses;
      choices = more_choices by mid to p.refused polls left a b l m n w p.choices;
      few = omega (arith, z, k);
      stands = stands_last by.plan mid.plan polls t.settling.polls settled (view_of t.waiting t.settling n) n w.choices.plan (omega (arith, z, k, none)) t.stands;
    }

-- by the answer's name
pub ended_by : (by to : Chooser) (polls : ℕ) (settled : Settled) (ended : Ended) (a c : List Item) (l n : LoopState) → Ends by to polls (ended_of settled) a c l n → ended ≡ ended_of settled → Ends by to polls ended a c l n
ended_by by to polls settled ended a c l n e is = subst (λ (x : Ended). Ends by to polls x a c l n) (sym is) e
