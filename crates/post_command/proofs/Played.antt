-- Played: a run from the first call of its loop to its end.
use Rattle.std.proofs.Common.{◌≡◌, ◌≤◌, ◌+◌, ℕ, true, false, List, [], ◌∷◌, ◌++◌, append-nil, length, ap, sym, refl, ◌∙◌, subst, arith}
use Rattle.std.proofs.lemmas.List.{append_cancel_left}
use Rattle.std.specs.Prelude.{None}
use Rattle.definitions.specs.Honest.{IsHonest}
use Rattle.station.specs.Sinks.{SinkState}
use Rattle.rosters.specs.Rosters.{Neighbours}
use Rattle.peer_core.specs.Views.{PeerState}
use Rattle.run_frame.specs.Frame as R
use Rattle.run_frame.specs.declared.statuses.Status.{Status}
use Rattle.datagram_post.specs.Faults.{is_keep_call, is_poll_call}
use Rattle.datagram_post.specs.Items.{Item}
use Rattle.own_moves.specs.Choices.{Chooser}
use Rattle.peer_rules.specs.declared.phases.Phase.{Phase}
use Rattle.peer_rules.specs.declared.phases.Phase.TheVariants.{Fresh, Running, KeepFault, PollFault}
use Rattle.post_rules.specs.Views.{View, new_settling, start, anew}
use Rattle.post_rules.specs.After.{view_after}
use Rattle.post_rules.specs.Histories.{are_allowed}
use Rattle.post_rules.specs.Laws.{FaultsAreLast, view_at}
use Rattle.loop_ends.specs.declared.ends.Begun.{Begun}
use Rattle.loop_ends.specs.declared.ends.Begun.TheVariants as B
use Rattle.loop_ends.specs.declared.ends.Ended.{Ended}
use Rattle.loop_ends.specs.declared.ends.Ended.TheVariants as E
use Rattle.datagram_loop.specs.States.{LoopState, held_by, setting_of, view_of}
use Rattle.datagram_loop.specs.Beginning.{Begins, IsNew, new_loop}
use Rattle.datagram_loop.specs.Playing.{Ends, IsDeaf, StandsEnded}
use Rattle.datagram_loop.specs.Laws.{BeginningsAreRuns, PlaysGoOn}
use Rattle.match_ends.specs.Ends.{match_answer}
use Rattle.post_command.specs.Faults.{EndsBy, FailsNeither, StandsByFaults}
use Rattle.post_command.specs.Plays.{PlayedOut, PlaysOut, Start, polls_of}
use Rattle.post_command.proofs.Failures.{ends_joined, fails_neither, keep_failed, neither_joined, poll_failed}
use Rattle.post_command.proofs.Polls.{polls_after, polls_joined}

-- ---- a beginning

no_stretch : 0 ≤ 1
no_stretch = omega arith

module _ (log : List ℕ) (begun : Begun) (l m : LoopState) (items : List Item) (b : Begins log begun l m items) where
  -- all of it is one stretch
  all_told : items ≡ b.told.more
  all_told = b.told.grown

  begun_allowed : are_allowed (start (setting_of l)) items ≡ true
  begun_allowed = subst (λ (x : List Item). are_allowed (start (setting_of l)) x ≡ true) (sym all_told) b.told.allowed

  begun_shown : view_after (start (setting_of l)) items ≡ view_of [] new_settling m
  begun_shown = subst (λ (x : List Item). view_after (start (setting_of l)) x ≡ view_of [] new_settling m) (sym all_told) b.told.shown

  begun_phase : (p : Phase) → m.phase ≡ p → (view_after (start (setting_of l)) items).phase ≡ p
  begun_phase p e = ap (λ (v : View). v.phase) begun_shown ∙ e

  -- no poll is made
  no_polls : polls_of items ≡ 0
  no_polls =
      let counted : (view_after (start (setting_of l)) items).settling.polls ≡ 0 + polls_of items = polls_after (start (setting_of l)) items in
      let shown : (view_after (start (setting_of l)) items).settling.polls ≡ 0 = ap (λ (v : View). v.settling.polls) begun_shown in
      omega (arith, counted, shown)

module _ (last : FaultsAreLast) (runs : BeginningsAreRuns) (log : List ℕ) (polls : ℕ) (by : Chooser) (l m : LoopState) (items : List Item) (ahead : 1 ≤ l.peer.game.ahead) (new : IsNew l) (honest : IsHonest m.peer.game m.peer.me m.peer.entries) where
  abbrev given : Start
  given = record { setting = setting_of l; log = log; polls = polls }

  -- the log could not be begun, and nothing was played
  pub logs_not : Begins log B.KeepFault l m items → PlaysOut given by by E.KeepFault m items
  logs_not b = record {
    front = [];
    stretch = items;
    stretches = no_stretch;
    refused = false;
    refuses = tt;
    run = runs log B.KeepFault by l m items ahead new b;
    few = (let none = no_polls log B.KeepFault l m items b in omega (arith, none));
    stands = b.stands;
    faults = keep_failed last (start (setting_of l)) items (begun_allowed log B.KeepFault l m items b) (λ e. (let x : Fresh ≡ KeepFault = e in cc)) (begun_phase log B.KeepFault l m items b KeepFault b.stands);
    honest = honest;
  }

  -- it has no entries, and so all of them are kept and synced
  deaf : Begins log B.PollFault l m items → IsDeaf m
  deaf b =
      let kept : m.kept ≡ 0 = ap (λ (x : LoopState). x.kept) b.same ∙ ap (λ (x : LoopState). x.kept) new.new in
      let synced : m.synced ≡ 0 = ap (λ (x : LoopState). x.synced) b.same ∙ ap (λ (x : LoopState). x.synced) new.new in
      let none : length m.peer.entries ≡ 0 = ap (λ (x : LoopState). length x.peer.entries) b.same ∙ ap length new.first in
      record { fault = b.stands; kept = kept ∙ sym none; synced = synced ∙ sym kept }

  -- the own address could not be bound, and nothing was played
  pub binds_not : Begins log B.PollFault l m items → PlaysOut given by by E.PollFault m items
  binds_not b = record {
    front = [];
    stretch = items;
    stretches = no_stretch;
    refused = false;
    refuses = refl;
    run = runs log B.PollFault by l m items ahead new b;
    few = (let none = no_polls log B.PollFault l m items b in omega (arith, none));
    stands = deaf b;
    faults = poll_failed last (start (setting_of l)) items (begun_allowed log B.PollFault l m items b) (λ e. (let x : Fresh ≡ PollFault = e in cc)) (begun_phase log B.PollFault l m items b PollFault b.stands);
    honest = honest;
  }

-- ---- a beginning and a play

one_stretch : (first : List Item) → length (first ∷ []) ≤ 1
one_stretch first = omega arith

module _ (last : FaultsAreLast) (runs : BeginningsAreRuns) (goes_on : PlaysGoOn) (log : List ℕ) (by to : Chooser) (polls : ℕ) (ended : Ended) (l m n : LoopState) (first items : List Item) (ahead : 1 ≤ l.peer.game.ahead) (new : IsNew l) (b : Begins log B.Ready l m first) (e : Ends by to polls ended first items m n) where
  -- what the play told
  abbrev more : List Item
  more = e.follows.more

  begun_told : view_after (start (setting_of l)) first ≡ view_of [] new_settling m
  begun_told = begun_shown log B.Ready l m first b

  play_shown : view_after (view_of [] new_settling m) more ≡ view_of e.waiting e.settling n
  play_shown = e.follows.shown

  all_shown : view_at (setting_of l) (first ∷ []) more ≡ view_of e.waiting e.settling n
  all_shown = ap (λ (v : View). view_after (anew v) more) begun_told ∙ play_shown

  -- it made all the polls
  all_polls : polls_of items ≡ e.settling.polls
  all_polls =
      let joined = ap polls_of e.follows.grown ∙ polls_joined first more in
      let none = no_polls log B.Ready l m first b in
      let counted : (view_after (view_of [] new_settling m) more).settling.polls ≡ 0 + polls_of more = polls_after (view_of [] new_settling m) more in
      let shown : (view_after (view_of [] new_settling m) more).settling.polls ≡ e.settling.polls = ap (λ (v : View). v.settling.polls) play_shown in
      omega (arith, joined, none, counted, shown)

  stands : StandsEnded by.plan polls (polls_of items) ended (view_at (setting_of l) (first ∷ []) more) n
  stands =
      subst (λ (v : View). StandsEnded by.plan polls (polls_of items) ended v n) (sym all_shown)
      (subst (λ (k : ℕ). StandsEnded by.plan polls k ended (view_of e.waiting e.settling n) n) (sym all_polls) e.stands)

  -- which failed calls stand behind the end
  play_phase : (p : Phase) → n.phase ≡ p → (view_after (view_of [] new_settling m) more).phase ≡ p
  play_phase p at = ap (λ (v : View). v.phase) play_shown ∙ at

  neither : n.phase ≡ Running → FailsNeither items
  neither at =
      let a = fails_neither last (start (setting_of l)) first (begun_allowed log B.Ready l m first b) (begun_phase log B.Ready l m first b Running b.stands.running) in
      let c = fails_neither last (view_of [] new_settling m) more e.follows.allowed (play_phase Running at) in
      subst FailsNeither (sym e.follows.grown) (neither_joined first more a c)

  not_before : (p : Phase) → (Running ≡ p → ⊥) → m.phase ≡ p → ⊥
  not_before p never at = never (sym b.stands.running ∙ at)

  by_keep : n.phase ≡ KeepFault → EndsBy is_keep_call items
  by_keep at =
      subst (EndsBy is_keep_call) (sym e.follows.grown) (ends_joined is_keep_call first more
      (keep_failed last (view_of [] new_settling m) more e.follows.allowed (not_before KeepFault (λ x. cc)) (play_phase KeepFault at)))

  by_poll : n.phase ≡ PollFault → EndsBy is_poll_call items
  by_poll at =
      subst (EndsBy is_poll_call) (sym e.follows.grown) (ends_joined is_poll_call first more
      (poll_failed last (view_of [] new_settling m) more e.follows.allowed (not_before PollFault (λ x. cc)) (play_phase PollFault at)))

  by_faults : (ended : Ended) (v : View) (made : ℕ) → StandsEnded by.plan polls made ended v n → StandsByFaults ended items
  by_faults E.KeepFault v made w = by_keep w
  by_faults E.PollFault v made w = by_poll w.fault
  by_faults E.Done v made w = neither w.0.running
  by_faults (E.Caught f) v made w = neither w.0.running
  by_faults (E.OwnMove turn fault) v made w = neither w.0.running
  by_faults E.GaveUp v made w = neither w.ready.running

  -- the play's stretch is what it told
  pub plays_on : IsHonest n.peer.game n.peer.me n.peer.entries → PlaysOut (record { setting = setting_of l; log = log; polls = polls }) by to ended n items
  plays_on honest =
      let begun = runs log B.Ready by l m first ahead new b in
      let x = goes_on (setting_of l) log [] first first items m n by by to polls ended ahead begun e in
      let front : (first ++ []) ++ x.0 ≡ first ++ more = sym x.3.told.all ∙ e.follows.grown in
      let same : x.0 ≡ more = append_cancel_left first x.0 more (ap (λ (r : List Item). r ++ x.0) (sym (append-nil first)) ∙ front) in
      record {
        front = first ∷ [];
        stretch = x.0;
        stretches = one_stretch first;
        refused = x.1;
        refuses = x.2;
        run = x.3;
        few = (let all = all_polls in let bound = e.few in omega (arith, all, bound));
        stands = subst (λ (r : List Item). StandsEnded by.plan polls (polls_of items) ended (view_at (setting_of l) (first ∷ []) r) n) (sym same) stands;
        faults = by_faults ended (view_at (setting_of l) (first ∷ []) more) (polls_of items) stands;
        honest = honest;
      }

-- so many polls were granted
pub granted : (by to : Chooser) (polls polls' : ℕ) (ended : Ended) (first items : List Item) (m n : LoopState) → polls' ≡ polls → Ends by to polls' ended first items m n → Ends by to polls ended first items m n
granted by to polls polls' ended first items m n e w = subst (λ (k : ℕ). Ends by to k ended first items m n) e w

-- a new loop of the peer played, and wrote its end
pub a_match : (p : PeerState) (r : Neighbours) (log : List ℕ) (polls : ℕ) (by to : Chooser) (ended : Ended) (l n : LoopState) (items : List Item) (before now : SinkState) (status : Status) → l ≡ new_loop p r →
    PlaysOut (record { setting = setting_of l; log = log; polls = polls }) by to ended n items → R.Ends before now (match_answer None polls ended n.peer (held_by n)) status →
    PlayedOut (record { setting = record { game = p.game; me = p.me; roster = r }; log = log; polls = polls }) by to items before now status
a_match p r log polls by to ended l n items before now status new plays written = record {
  ended = ended;
  last = n;
  plays = subst (λ (x : LoopState). PlaysOut (record { setting = setting_of x; log = log; polls = polls }) by to ended n items) new plays;
  written = written;
}
