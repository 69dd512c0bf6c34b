-- Ended: how a run ends that wrote the end of its loop.
use Rattle.std.proofs.Common.{◌≡◌, inl, ℕ, Option, ap, subst, sym}
use Rattle.definitions.specs.declared.world.MoveFault.{MoveFault}
use Rattle.station.specs.Outside.{Rose}
use Rattle.station.specs.Sinks.{SinkState}
use Rattle.line_io.specs.Files.{Contents}
use Rattle.line_io.specs.Inputs.{Input}
use Rattle.run_frame.specs.Frame.{Ends}
use Rattle.run_frame.specs.Law.{HasCause, Law}
use Rattle.run_frame.specs.Outside.{CountsFaults, Outside}
use Rattle.run_frame.specs.declared.statuses.Status.{Status}
use Rattle.run_frame.specs.declared.statuses.Status.TheVariants.{Done, Caught, GaveUp, KeepFault, PollFault, OwnMove, NoMemory, InputFault, OutputFault}
use Rattle.loop_ends.specs.declared.ends.Ended.{Ended}
use Rattle.loop_ends.specs.declared.ends.Ended.TheVariants as E
use Rattle.peer_core.specs.Views.{PeerState}
use Rattle.match_ends.specs.Ends.{match_answer, status_of}

-- no loop ends with a fault of the input
never_input : (ended : Ended) → InputFault ≡ status_of ended → ⊥
never_input E.Done e = cc
never_input (E.Caught f) e = cc
never_input E.PollFault e = cc
never_input E.KeepFault e = cc
never_input (E.OwnMove turn fault) e = cc
never_input E.GaveUp e = cc

-- what holds of each status of an end holds of this one
pub of_each : (P : Status → Type 0) → P Done → P Caught → P PollFault → P KeepFault → ((turn : ℕ) (fault : MoveFault) → P (OwnMove turn fault)) → P GaveUp → (ended : Ended) → P (status_of ended)
of_each P done caught poll keep own gave E.Done = done
of_each P done caught poll keep own gave (E.Caught f) = caught
of_each P done caught poll keep own gave E.PollFault = poll
of_each P done caught poll keep own gave E.KeepFault = keep
of_each P done caught poll keep own gave (E.OwnMove turn fault) = own turn fault
of_each P done caught poll keep own gave E.GaveUp = gave

module _ (a b : SinkState) (dropped : Option ℕ) (polls : ℕ) (ended : Ended) (q : PeerState) (held : ℕ → ℕ) where
  -- where the sink didn't fail, the status is that of the end
  pub ended_so : (status : Status) → ¬ Rose a.faults b.faults → Ends a b (match_answer dropped polls ended q held) status → status ≡ status_of ended
  ended_so NoMemory none e = absurd e
  ended_so OutputFault none e = absurd (none e.rose)
  ended_so status none e = e.1

  -- where the end's status has its cause, the run's has
  pub ended_cause : (law : Law) (contents : Contents) (input : Input) → HasCause law contents input (status_of ended) → (status : Status) → Ends a b (match_answer dropped polls ended q held) status → HasCause law contents input status
  ended_cause law contents input c NoMemory e = tt
  ended_cause law contents input c InputFault e = tt
  ended_cause law contents input c OutputFault e = tt
  ended_cause law contents input c status e = subst (HasCause law contents input) (sym e.1) c

-- a fault of the sink is counted where it is told, where no other failed since
pub ended_counts : (before after : Outside) (dropped : Option ℕ) (polls : ℕ) (ended : Ended) (q : PeerState) (held : ℕ → ℕ) (status : Status) → after.input.faults ≡ before.input.faults → after.shelf.faults ≡ before.shelf.faults →
    Ends before.output after.output (match_answer dropped polls ended q held) status → CountsFaults before after status
ended_counts before after dropped polls ended q held NoMemory i f e = absurd e
ended_counts before after dropped polls ended q held InputFault i f e = absurd (never_input ended e.1)
ended_counts before after dropped polls ended q held OutputFault i f e = (inl (record { source = i; files = f }), e.rose)
ended_counts before after dropped polls ended q held status i f e = (record { source = i; files = f }, ap (λ (x : SinkState). x.faults) e.0)
