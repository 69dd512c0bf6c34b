-- OverStation: a run of `deposit`, from what it opened to the line of how it ended.
use Rattle.std.proofs.Common.{◌≡◌, inl, inr, Bool, true, List, refl, ap, sym, ◌∙◌, subst}
use Rattle.std.specs.Prelude.{Ok, Err}
use Rattle.station.specs.Outside.{Rose, faults_behind}
use Rattle.station.specs.Shelves.{ShelfState}
use Rattle.station.specs.Since.{grows_none}
use Rattle.station.specs.Sinks.{SinkState}
use Rattle.socket_station.specs.Items.{Item}
use Rattle.line_io.specs.Files.{Contents}
use Rattle.run_frame.specs.Frame.{Answer, Ends}
use Rattle.run_frame.specs.Outside.{CountsFaults, Outside, with_sockets}
use Rattle.run_frame.specs.Runs.{Works}
use Rattle.run_frame.specs.declared.statuses.Status.{Status}
use Rattle.run_frame.specs.declared.statuses.Status.TheVariants.{InputFault, NoMemory, OutputFault}
use Rattle.run_frame.proofs.Alone.{refused_so, refused_works}
use Rattle.run_frame.proofs.Counts.{where_no_memory}
use Rattle.run_frame.proofs.Working.{works}
use Rattle.live_deposit.specs.declared.deposit.Deposited.{Deposited}
use Rattle.live_deposit.specs.declared.deposit.Deposited.TheVariants as D
use Rattle.live_deposit.specs.Sending.{is_shelf_fault}
use Rattle.deposit_command.specs.declared.opening.DepositSource.{DepositSource}
use Rattle.deposit_command.specs.DepositLaw.{deposit_law, undeposited_answer}
use Rattle.deposit_command.specs.Deposits.{DepositsLog, deposit_answer}
use Rattle.deposit_command.specs.Gives.{GivesLog}
use Rattle.deposit_command.specs.Opened.{IsSource, OpensSource, source_for}
use Rattle.deposit_command.specs.Words.{Depositing}
use Rattle.deposit_command.proofs.DepositHolds.{deposit_holds}

module _ (d : Depositing) (rest : Outside) (a : SinkState) (h h' : ShelfState)
    (items : List Item) where
  -- the run of which the output, the shelf and the station stand so
  abbrev at : SinkState → ShelfState → List Item → Outside
  at output shelf station = with_sockets rest output shelf station rest.chance

  abbrev first : Outside
  first = at a h items

  -- nothing to go by
  pub no_source : (s : Status) → OpensSource d h h' (Err s) →
      Works (deposit_law d) first (at a h' items) s
  no_source s o =
      refused_works (deposit_law d) (deposit_holds d) refl first a h h' o.calls
      (record { reads = o.reads; due = o.ready }) s
      (λ contents input given. refused_so undeposited_answer (λ e. refl) _ s (o.due contents given))
      o.counted (λ due r. tt)

  -- the shelf stands so after the log was given
  module _ (b : SinkState) (shelf : ShelfState) (now : List Item) where
    abbrev last : Outside
    last = at b shelf now

    -- where it didn't fail, no fault of the input is told
    calm_counts : (due : Answer) (s : Status) → (InputFault ≡ due.status → ⊥) →
        shelf.faults ≡ h.faults → Ends a b due s → CountsFaults first last s
    calm_counts due NoMemory never f e = absurd e
    calm_counts due InputFault never f e = absurd (never e.1)
    calm_counts due OutputFault never f e = (inl (record { source = refl; files = f }), e.rose)
    calm_counts due s never f e =
        (record { source = refl; files = f }, ap (λ (x : SinkState). x.faults) e.0)

    -- where it failed, one is told, unless the output failed too
    fault_counts : (due : Answer) (s : Status) → due.status ≡ InputFault →
        Rose h.faults shelf.faults → Ends a b due s → CountsFaults first last s
    fault_counts due NoMemory is f e = absurd e
    fault_counts due OutputFault is f e = (inr (inr (refl, f)), e.rose)
    fault_counts due s is f e =
        subst (CountsFaults first last) (sym (e.1 ∙ is))
        (inr (refl, f), ap (λ (x : SinkState). x.faults) e.0)

    counts : (result : Deposited) (s : Status) →
        shelf.faults ≡ faults_behind (is_shelf_fault result) h.faults →
        Ends a b (deposit_answer d.polls result) s → CountsFaults first last s
    counts D.Sent s f e = calm_counts (deposit_answer d.polls D.Sent) s (λ x. cc) f e
    counts D.GaveUp s f e = calm_counts (deposit_answer d.polls D.GaveUp) s (λ x. cc) f e
    counts D.PollFault s f e = calm_counts (deposit_answer d.polls D.PollFault) s (λ x. cc) f e
    counts D.ShelfFault s f e = fault_counts (deposit_answer d.polls D.ShelfFault) s refl f e

    module _ (x : DepositSource) (o : OpensSource d h h' (Ok x)) where
      deposits : (contents : Contents) → IsSource d (source_for d contents) x → (s : Status) →
          GivesLog d x now h' shelf a b s → DepositsLog d (source_for d contents) first last s
      deposits contents due s g = record {
        source = record { game = x.session; logger = x.logger };
        due_is = due.due_is;
        seated = due.seated;
        read = h';
        calls = o.calls;
        files = o.reads;
        counted = o.counted;
        result = g.result;
        last = g.last;
        sends = g.sends;
        written = g.written;
      }

      pub a_source : (s : Status) → GivesLog d x now h' shelf a b s →
          Works (deposit_law d) first last s
      a_source s g =
          let failed : Bool = is_shelf_fault g.result in
          works (deposit_law d) (deposit_holds d) first last s (record {
            calls = o.calls;
            read = h';
            files = record { reads = o.reads; due = o.ready };
            asked = (failed, g.sends.asks);
            input = record { same = refl; grows = grows_none rest.input.seen };
            text = λ contents behind m. inr (deposits contents (o.due contents m.given) s g);
            memory = where_no_memory s ((deposit_law d).memory ≡ true) refl;
            faults = counts g.result s
                (g.sends.asks.counted ∙ ap (faults_behind failed) o.counted) g.written;
            untouched = record {
              over = λ contents behind m over. refl;
              no_memory = where_no_memory s ((deposit_law d).first ≡ true → rest.input ≡ rest.input)
                  (λ e. refl);
            };
            over = tt;
          })
