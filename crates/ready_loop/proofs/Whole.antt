-- Whole: a run from its beginning to its end makes a whole history.
use Rattle.std.proofs.Common.{inl, inr, ◌≡◌, ℕ, ◌+◌, Bool, true, refl, sym, ap, subst, ◌∙◌, ◌≤◌, List, [], ◌++◌, drop, take-append-drop, arith, length}
use Rattle.std.specs.Prelude.{Option, ◌⊎◌}
use Rattle.std.proofs.Math.Seq.{take-length}
use Rattle.definitions.specs.declared.logs.Entry.{Entry}
use Rattle.definitions.specs.Needs.{may_choose}
use Rattle.pilots.specs.Plans.{Plan}
use Rattle.peer_core.specs.Views.{PeerState}
use Rattle.socket_station.specs.Items.{Item}
use Rattle.peer_rules.specs.declared.phases.Phase.TheVariants.{KeepFault}
use Rattle.loop_rules.specs.Settings.{Setting}
use Rattle.loop_rules.specs.Views.{View}
use Rattle.loop_rules.specs.After as A
use Rattle.loop_rules.specs.Histories.{IsHistory, BeginsLog, RunEnd, Handled, AtOwnMove, HandledAll, EndsWhole, IsHistoryOf}
use Rattle.loop_rules.specs.Told.{IsTold}
use Rattle.loop_rules.proofs.Kept.{Keeps, keeps_sorted}
use Rattle.loop_ends.specs.declared.ends.Begun.{Begun}
use Rattle.loop_ends.specs.declared.ends.Begun.TheVariants as B
use Rattle.ready_loop.specs.declared.settling.Settled.TheVariants as S
use Rattle.loop_ends.specs.declared.ends.Ended.{Ended}
use Rattle.loop_ends.specs.declared.ends.Ended.TheVariants as E
use Rattle.ready_loop.specs.States.{LoopState, setting_of, kept_of, base_of, rest_of, view_of}
use Rattle.own_moves.specs.Choices.{ChoosesBy}
use Rattle.ready_loop.specs.Going.{IsDeaf, polls_of}
use Rattle.ready_loop.specs.Beginning.{given_by, IsNew, StandsBegun}
use Rattle.ready_loop.specs.Stops.{IsWhole, StandsSettled}
use Rattle.ready_loop.specs.Settling.{ChoosesIn}
use Rattle.ready_loop.specs.Polling.{GoesBy, round_of, StandsEnded}
use Rattle.ready_loop.specs.Laws.{BeginningsAreHistories, end_of, RunsAreWhole, SettlingsEndRuns, RoundsEndRuns, RoundsLeadRuns}
use Rattle.ready_loop.proofs.Idle.{still_view, all_kept}
use Rattle.ready_loop.proofs.Began.{named_on}
use Rattle.ready_loop.proofs.Choices.{chooses_then}
use Rattle.ready_loop.proofs.Polled.{by_then, by_none}
use Rattle.ready_loop.proofs.Runs.{refuses_round, refuses_end, none_in, ends_in, ends_at}

-- ---- a loop at the end of a history

-- every entry is kept and synced; at an own move that is not legal one may be chosen, and else no frame waits
abbrev Stops : RunEnd → LoopState → Type 0
Stops Handled n = (n.table.waiting ≡ []) × (n.handled ≡ 0)
Stops AtOwnMove n = may_choose n.peer.game n.peer.me n.peer.entries ≡ true

record IsStopped (end : RunEnd) (n : LoopState) : Type 0 where
  pub kept : n.kept ≡ length n.peer.entries
  pub synced : n.synced ≡ n.kept
  pub stops : Stops end n

whole_stops : (n : LoopState) → IsWhole n → IsStopped Handled n
whole_stops n w = record { kept = w.idle.kept; synced = w.synced; stops = (w.idle.waiting, w.idle.handled) }

deaf_stops : (n : LoopState) → IsDeaf n → IsStopped Handled n
deaf_stops n w = record { kept = w.kept; synced = w.synced; stops = (w.waiting, w.handled) }

ended_stops : (plan : Option Plan) (polls made : ℕ) (ended : Ended) (n : LoopState) → StandsEnded plan polls made ended n → (n.phase ≡ KeepFault) ⊎ IsStopped (end_of ended) n
ended_stops plan polls made E.Done n w = inr (whole_stops n w.whole)
ended_stops plan polls made (E.Caught f) n w = inr (whole_stops n w.0)
ended_stops plan polls made E.PollFault n w = inr (deaf_stops n w)
ended_stops plan polls made E.KeepFault n w = inl w.fault
ended_stops plan polls made (E.OwnMove turn fault) n w = inr (record { kept = w.0.idle.kept; synced = w.0.synced; stops = w.1.chooses })
ended_stops plan polls made E.GaveUp n w = inr (whole_stops n w.whole)

ended_kept : (plan : Option Plan) (polls made : ℕ) (ended : Ended) (n : LoopState) → StandsEnded plan polls made ended n → (ended ≡ E.KeepFault → ⊥) → kept_of n ≡ n.peer.entries
ended_kept plan polls made E.Done n w differs = all_kept n w.whole.idle.kept
ended_kept plan polls made (E.Caught f) n w differs = all_kept n w.0.idle.kept
ended_kept plan polls made E.PollFault n w differs = all_kept n w.kept
ended_kept plan polls made E.KeepFault n w differs = absurd (differs refl)
ended_kept plan polls made (E.OwnMove turn fault) n w differs = all_kept n w.0.idle.kept
ended_kept plan polls made E.GaveUp n w differs = all_kept n w.whole.idle.kept

begun_stops : (begun : Begun) (n : LoopState) → StandsBegun begun n → (n.phase ≡ KeepFault) ⊎ IsStopped Handled n
begun_stops B.Ready n w = inr (record { kept = w.0.kept; synced = w.1; stops = (w.0.waiting, w.0.handled) })
begun_stops B.KeepFault n w = inl w
begun_stops B.PollFault n w = inr (deaf_stops n w)

-- ---- its history

handled_all : (end : RunEnd) (n : LoopState) → IsStopped end n → HandledAll end (view_of n)
handled_all Handled n w = ap (λ (v : View). v.table.waiting) (still_view n w.stops.0 w.stops.1) ∙ w.stops.0
handled_all AtOwnMove n w =
    ap (λ (s : Setting). may_choose s.game s.me (view_of n).kept) k.setting ∙ ap (may_choose n.peer.game n.peer.me) (k.kept ∙ all_kept n w.kept) ∙ w.stops
  where
    k : Keeps (base_of n) (view_of n)
    k = keeps_sorted (rest_of n) (base_of n)

ends_whole : (end : RunEnd) (n : LoopState) → IsStopped end n → EndsWhole end (view_of n) (kept_of n)
ends_whole end n w = record {
  rest = drop n.over n.peer.entries;
  over = all_kept n w.kept ∙ sym (take-append-drop n.over n.peer.entries) ∙ ap (λ (s : Setting). s.over ++ drop n.over n.peer.entries) (sym k.setting);
  synced = k.synced ∙ w.synced ∙ w.kept ∙ sym (ap (λ (h : List Entry). length h) (k.kept ∙ all_kept n w.kept));
  handled = handled_all end n w;
}
  where
    k : Keeps (base_of n) (view_of n)
    k = keeps_sorted (rest_of n) (base_of n)

-- what is told of such a loop is a whole history
told_whole : (s : Setting) (name : List ℕ) (end : RunEnd) (items : List Item) (n : LoopState) → IsTold items (view_of n) → setting_of n ≡ s → BeginsLog name items → (n.phase ≡ KeepFault) ⊎ IsStopped end n → IsHistoryOf s name end items (kept_of n)
told_whole s name end items n told same named stops = record {
  allowed = subst (λ (z : Setting). IsHistory z items) setting told.allowed;
  begun = named;
  kept = ap (λ (v : View). v.kept) shown ∙ k.kept;
  ends = go stops;
}
  where
    k : Keeps (base_of n) (view_of n)
    k = keeps_sorted (rest_of n) (base_of n)

    setting : (view_of n).setting ≡ s
    setting = k.setting ∙ same

    shown : A.view_of s items ≡ view_of n
    shown = ap (λ (z : Setting). A.view_of z items) (sym setting) ∙ told.shown

    go : (n.phase ≡ KeepFault) ⊎ IsStopped end n → ((A.view_of s items).phase ≡ KeepFault) ⊎ EndsWhole end (A.view_of s items) (kept_of n)
    go (inl fault) = inl (ap (λ (v : View). v.phase) shown ∙ k.phase ∙ fault)
    go (inr w) = inr (subst (λ (v : View). EndsWhole end v (kept_of n)) (sym shown) (ends_whole end n w))

-- what a new loop goes by is what it was given
pub new_setting : (l : LoopState) → IsNew l → setting_of l ≡ given_by l.peer l.roster
new_setting l new = ap setting_of new ∙ ap (λ (es : List Entry). record (given_by l.peer l.roster) { over = es }) (take-length l.peer.entries)

pub beginnings_are_histories : BeginningsAreHistories
beginnings_are_histories name begun l m items new w = told_whole (given_by l.peer l.roster) name Handled items m w.told (w.setting ∙ new_setting l new) w.named (begun_stops begun m w.stands)

pub runs_are_whole : RunsAreWhole
runs_are_whole name by to polls ended l m n start items new b w = record {
  setting = w.goes.setting ∙ b.setting ∙ new_setting l new;
  told = w.goes.told;
  new = w.goes.new b.new;
  few = subst (λ (k : ℕ). k ≤ polls) (sym made) w.few;
  stands = subst (λ (k : ℕ). StandsEnded by.plan polls k ended n) (sym made) w.stands;
  history = told_whole (given_by l.peer l.roster) name (end_of ended) items n w.goes.told (w.goes.setting ∙ b.setting ∙ new_setting l new)
      (subst (BeginsLog name) (sym w.goes.grown) (named_on name start w.goes.more b.named)) (ended_stops by.plan polls w.made ended n w.stands);
  kept = ended_kept by.plan polls w.made ended n w.stands;
  refused = w.refused;
  refuses = w.refuses;
  choices = subst (λ (p : PeerState). ChoosesBy p.game p.me by to w.refused p.entries n.peer.entries) b.peer w.choices;
}
  where
    made : polls_of items ≡ w.made
    made = (let first = b.polls in let all = w.goes.polls in omega (arith, first, all))

-- ---- rounds and runs

pub settlings_end_runs : SettlingsEndRuns
settlings_end_runs by to settled before after l m w = record {
  refused = w.refused;
  refuses = refuses_end (round_of settled) w.refused (refuses_round settled w.refused w.refuses);
  choices = w.choices;
  made = 0;
  few = omega arith;
  goes = by_none before after l m w.grows;
  stands = ends_at by.plan by.plan 0 0 settled m refl refl w.licensed w.stands;
}

pub rounds_end_runs : RoundsEndRuns
rounds_end_runs by to round before after l m w off = record {
  refused = w.refused;
  refuses = refuses_end round w.refused w.refuses;
  choices = w.choices;
  made = 0;
  few = omega arith;
  goes = subst (λ (k : ℕ). GoesBy k before after l m) (none_in round off) w.goes;
  stands = ends_in by.plan by.plan 0 0 round m refl off w.stands;
}

-- a run that was led by one more round ends as it did
led : (plan mid : Option Plan) (polls made : ℕ) (ended : Ended) (n : LoopState) → mid ≡ plan → StandsEnded mid polls made ended n → StandsEnded plan (polls + 1) (made + 1) ended n
led plan mid polls made E.Done n e w = w
led plan mid polls made (E.Caught f) n e w = w
led plan mid polls made E.PollFault n e w = w
led plan mid polls made E.KeepFault n e w = w
led plan mid polls made (E.OwnMove turn fault) n e w = subst (λ (p : Option Plan). StandsSettled p (S.OwnMove turn fault) n) e w
led plan mid polls made E.GaveUp n e w = record { whole = w.whole; all = ap (λ (k : ℕ). k + 1) w.all; licensed = w.licensed }

pub rounds_lead_runs : RoundsLeadRuns
rounds_lead_runs by mid to polls ended before between after l m n r w = record {
  refused = w.refused;
  refuses = w.refuses;
  choices = chooses_then by mid to w.refused l m n r.goes.setting (subst (λ (b : Bool). ChoosesIn by mid b l m) r.refuses r.choices) w.choices;
  made = w.made + 1;
  few = (let few = w.few in omega (arith, few));
  goes = subst (λ (k : ℕ). GoesBy k before after l n) (let e : 1 + w.made ≡ w.made + 1 = omega arith in e) (by_then 1 w.made before between after l m n r.goes w.goes);
  stands = led by.plan mid.plan polls w.made ended n r.choices.plan w.stands;
}
