-- Played: a run from the first call of its loop to its end, and what its station told.
use Rattle.std.proofs.Common.{inr, ◌≡◌, ℕ, false, List, [], Option, ap, sym, refl, ◌∙◌, subst, append-nil, take, arith}
use Rattle.std.proofs.Math.Seq.{take-length}
use Rattle.definitions.specs.Honest.{IsHonest}
use Rattle.definitions.specs.Logs.{chosen}
use Rattle.station.specs.Sinks.{SinkState}
use Rattle.socket_station.specs.Items.{Item}
use Rattle.rosters.specs.Rosters.{Neighbours}
use Rattle.pilots.specs.Plans.{Plan}
use Rattle.peer_core.specs.Standing.{IsStanding}
use Rattle.peer_core.specs.Views.{PeerState}
use Rattle.peer_rules.specs.declared.phases.Phase.{Phase}
use Rattle.peer_rules.specs.declared.phases.Phase.TheVariants.{Running, KeepFault, PollFault}
use Rattle.loop_rules.specs.Histories.{IsHistory}
use Rattle.loop_rules.specs.Laws.{FailedPollsAreLicensed, FaultsAreLast, GivenIsDue, KeptIsHonest, PrefixesAreHistories, RevealsGivenAreFair}
use Rattle.loop_rules.specs.Runs.{LogsAreRuns}
use Rattle.loop_rules.specs.Settings.{Setting}
use Rattle.loop_rules.specs.Told.{IsTold}
use Rattle.loop_rules.proofs.Kept.{keeps_sorted}
use Rattle.definition_laws.proofs.Fair.{honest_fair}
use Rattle.run_frame.specs.Frame.{Ends}
use Rattle.run_frame.specs.declared.statuses.Status.{Status}
use Rattle.loop_ends.specs.declared.ends.Begun.TheVariants as B
use Rattle.loop_ends.specs.declared.ends.Ended.{Ended}
use Rattle.loop_ends.specs.declared.ends.Ended.TheVariants as E
use Rattle.ready_loop.specs.States.{LoopState, base_of, rest_of, view_of}
use Rattle.own_moves.specs.Choices.{Chooser, ChoosesBy}
use Rattle.ready_loop.specs.Beginning.{Begins, IsNew, given_by, new_loop}
use Rattle.ready_loop.specs.Laws.{BeginningsAreHistories, RunsAreWhole}
use Rattle.ready_loop.specs.Polling as L
use Rattle.ready_loop.proofs.Whole.{new_setting}
use Rattle.ready_loop.specs.Counts.{held_by}
use Rattle.match_ends.specs.Ends.{match_answer}
use Rattle.peer_command.specs.Fair.{IsFairMatch}
use Rattle.peer_command.specs.Faults.{StandsByFaults}
use Rattle.peer_command.specs.Plays.{PlayedOut, PlaysOut}
use Rattle.peer_command.proofs.Failures.{keep_failed, poll_failed, fails_neither}
use Rattle.peer_command.proofs.Steps.{log_is_run}

-- ---- what its station told

module _ (prefixes : PrefixesAreHistories) (given_is_due : GivenIsDue) (reveals_given_are_fair : RevealsGivenAreFair) (kept_is_honest : KeptIsHonest) (logs_are_runs : LogsAreRuns) (failed_polls : FailedPollsAreLicensed) (p : PeerState) (r : Neighbours) (standing : IsStanding p) (items : List Item) where
  fair_history : IsHistory (given_by p r) items → IsFairMatch p r items
  fair_history h = record {
    history = h;
    given = λ before more socket bytes e.
        let g = given_is_due (given_by p r) before more socket bytes (subst (IsHistory (given_by p r)) e h) in
        (g.0, g.1, g.3);
    received = λ before more place t m n e own.
        reveals_given_are_fair (given_by p r) before place t m n standing.session.ahead.0 standing.honest (prefixes (given_by p r) before more (subst (IsHistory (given_by p r)) e h)) own;
    log = honest_fair p.game p.me _ standing.session.ahead.0 (kept_is_honest (given_by p r) items standing.honest h);
  }

  -- the loop of a run, and what was written at its end
  pub a_match : (dropped : Option ℕ) (log : List ℕ) (polls : ℕ) (by to : Chooser) (ended : Ended) (l n : LoopState) (before now : SinkState) (status : Status) → l ≡ new_loop p r →
      PlaysOut log by to polls ended l n items → Ends before now (match_answer dropped polls ended n.peer (held_by n)) status →
      PlayedOut (record { peer = p; roster = r; dropped = dropped; log = log; polls = polls }) by to items before now status
  a_match dropped log polls by to ended l n before now status new plays written =
      let w : PlaysOut log by to polls ended (new_loop p r) n items = subst (λ (x : LoopState). PlaysOut log by to polls ended x n items) new plays in
      record { ended = ended; last = n; plays = w; fair = fair_history w.run.history.allowed; steps = log_is_run logs_are_runs failed_polls p r log by to polls ended n items standing w.run w.faults; written = written }

-- ---- how the loop goes

-- nothing was chosen
none_chosen : (by : Chooser) (l m : LoopState) → m.peer ≡ l.peer → ChoosesBy l.peer.game l.peer.me by by false l.peer.entries m.peer.entries
none_chosen by l m same = record {
  more = [];
  grown = ap (λ (p : PeerState). chosen l.peer.me p.entries) same ∙ sym (append-nil (chosen l.peer.me l.peer.entries));
  last = by.chance;
  made = refl;
  chance = refl;
  plan = refl;
}

-- what the station told shows the loop's phase
phase_shown : (l : LoopState) (p : Phase) → l.phase ≡ p → (view_of l).phase ≡ p
phase_shown l p e = (keeps_sorted (rest_of l) (base_of l)).phase ∙ e

-- which failed calls stand behind the end
by_faults : (last : FaultsAreLast) (plan : Option Plan) (polls made : ℕ) (ended : Ended) (items : List Item) (n : LoopState) → IsTold items (view_of n) → L.StandsEnded plan polls made ended n → StandsByFaults ended items
by_faults last plan polls made E.KeepFault items n told stands = keep_failed last items (view_of n) told (phase_shown n KeepFault stands.fault)
by_faults last plan polls made E.PollFault items n told stands = poll_failed last items (view_of n) told (phase_shown n PollFault stands.fault)
by_faults last plan polls made E.Done items n told stands = fails_neither last items (view_of n) told (phase_shown n Running stands.whole.idle.running)
by_faults last plan polls made (E.Caught f) items n told stands = fails_neither last items (view_of n) told (phase_shown n Running stands.0.idle.running)
by_faults last plan polls made (E.OwnMove turn fault) items n told stands = fails_neither last items (view_of n) told (phase_shown n Running stands.0.idle.running)
by_faults last plan polls made E.GaveUp items n told stands = fails_neither last items (view_of n) told (phase_shown n Running stands.whole.idle.running)

module _ (last : FaultsAreLast) (histories : BeginningsAreHistories) (log : List ℕ) (by : Chooser) (polls : ℕ) (l m : LoopState) (items : List Item) (new : IsNew l) where
  -- the log could not be begun or kept, and nothing was played
  pub logs_not : Begins log B.KeepFault l m items → IsHonest m.peer.game m.peer.me m.peer.entries → PlaysOut log by by polls E.KeepFault l m items
  logs_not b honest = record {
    honest = honest;
    run = record {
      history = histories log B.KeepFault l m items new b;
      setting = b.setting ∙ new_setting l new;
      told = b.told;
      new = b.new;
      few = (let none = b.polls in omega (arith, none));
      stands = record { fault = b.stands; rest = inr (inr (inr (ap (λ (p : PeerState). p.entries) b.peer ∙ sym (ap (λ (s : Setting). s.over) (b.setting ∙ new_setting l new))))) };
      kept = λ differs. absurd (differs refl);
      refused = false;
      refuses = tt;
      choices = none_chosen by l m b.peer;
    };
    faults = keep_failed last items (view_of m) b.told (phase_shown m KeepFault b.stands);
  }

  -- it could not listen, and nothing was played
  pub listens_not : Begins log B.PollFault l m items → IsHonest m.peer.game m.peer.me m.peer.entries → PlaysOut log by by polls E.PollFault l m items
  listens_not b honest = record {
    honest = honest;
    run = record {
      history = histories log B.PollFault l m items new b;
      setting = b.setting ∙ new_setting l new;
      told = b.told;
      new = b.new;
      few = (let none = b.polls in omega (arith, none));
      stands = b.stands;
      kept = λ differs. ap (λ (n : ℕ). take n m.peer.entries) b.stands.kept ∙ take-length m.peer.entries;
      refused = false;
      refuses = refl;
      choices = none_chosen by l m b.peer;
    };
    faults = poll_failed last items (view_of m) b.told (phase_shown m PollFault b.stands.fault);
  }

-- it listens, is ready to play, and played
pub on_from : (last : FaultsAreLast) (whole : RunsAreWhole) (log : List ℕ) (by to : Chooser) (polls polls' : ℕ) (ended : Ended) (l m n : LoopState) (first items : List Item) → IsNew l → Begins log B.Ready l m first → polls' ≡ polls →
    L.Ends by to polls' ended first items m n → IsHonest n.peer.game n.peer.me n.peer.entries → PlaysOut log by to polls ended l n items
on_from last whole log by to polls polls' ended l m n first items new b e w honest =
    let x : L.Ends by to polls ended first items m n = subst (λ (k : ℕ). L.Ends by to k ended first items m n) e w in
    record { run = whole log by to polls ended l m n first items new b x; faults = by_faults last by.plan polls x.made ended items n x.goes.told x.stands; honest = honest }
