-- OverStation: a run of `watch`, from what it opened to what it wrote.
use Rattle.std.proofs.Common.{◌≡◌, ◌⊎◌, inl, inr, true, false, List, refl, ap, sym, subst}
use Rattle.std.specs.Prelude.{Result, Ok, Err}
use Rattle.station.specs.Shelves.{ShelfState}
use Rattle.station.specs.Since.{grows_none}
use Rattle.station.specs.Sinks.{SinkState}
use Rattle.socket_station.specs.Items.{Item}
use Rattle.line_io.specs.Files.{Contents}
use Rattle.run_frame.specs.Frame.{Answer, Ran}
use Rattle.run_frame.specs.Outside.{CountsFaults, IsApart, Outside, with_sockets}
use Rattle.run_frame.specs.Runs.{Works}
use Rattle.run_frame.specs.declared.statuses.Status.{Status}
use Rattle.run_frame.specs.declared.statuses.Status.TheVariants.{InputFault, NoMemory, OutputFault}
use Rattle.run_frame.proofs.Alone.{refused_so, refused_works}
use Rattle.run_frame.proofs.Counts.{where_no_memory}
use Rattle.run_frame.proofs.Working.{works}
use Rattle.watch_command.specs.declared.opening.WatchSource.{WatchSource}
use Rattle.watch_command.specs.Opened.{IsSource, OpensSource, Source, source_for}
use Rattle.watch_command.specs.Plays.{PlaysLogger, PlaysWatch}
use Rattle.watch_command.specs.WatchLaw.{unwatched_answer, watch_law}
use Rattle.watch_command.specs.Watches.{WatchesLogs}
use Rattle.watch_command.specs.Words.{Watching}
use Rattle.watch_command.proofs.WatchHolds.{watch_holds}

module _ (w : Watching) (rest : Outside) (a : SinkState) (h h' : ShelfState)
    (items : List Item) where
  -- the run of which the output, the shelf and the station stand so
  abbrev at : SinkState → ShelfState → List Item → Outside
  at output shelf station = with_sockets rest output shelf station rest.chance

  abbrev first : Outside
  first = at a h items

  -- nothing to go by
  pub no_source : (s : Status) → OpensSource w h h' (Err s) →
      Works (watch_law w) first (at a h' items) s
  no_source s o =
      refused_works (watch_law w) (watch_holds w) refl first a h h' o.calls
      (record { reads = o.reads; due = o.ready }) s
      (λ contents input given. refused_so unwatched_answer (λ e. refl) _ s (o.due contents given))
      o.counted (λ due r. tt)

  -- the output and the station stand so at the end of a run that found a source
  module _ (b : SinkState) (now : List Item) (x : WatchSource) (o : OpensSource w h h' (Ok x)) where
    abbrev last : Outside
    last = at b h' now

    ran_counts : (due : Answer) (s : Status) → Ran a b due true ⊥ ⊥ s → CountsFaults first last s
    ran_counts due NoMemory r =
        (record { source = refl; files = o.counted }, ap (λ (x : SinkState). x.faults) r.2)
    ran_counts due InputFault (inl r) = absurd r.0
    ran_counts due InputFault (inr r) = absurd r.0
    ran_counts due OutputFault r = (inl (record { source = refl; files = o.counted }), r.rose)
    ran_counts due s r =
        (record { source = refl; files = o.counted }, ap (λ (x : SinkState). x.faults) r.0)

    counts : (s : Status) → PlaysWatch x w.polls items now a b s → CountsFaults first last s
    counts s (inl none) =
        subst (CountsFaults first last) (sym none.lacks)
        (record { source = refl; files = o.counted }, ap (λ (x : SinkState). x.faults) none.written)
    counts s (inr some) = ran_counts _ s some.written

    watches : (due : Result Source Status) → IsSource due x → (s : Status) →
        PlaysLogger x w.polls now a b s → WatchesLogs w due first last s
    watches due is s p = record {
      source = record { game = x.session; roster = x.roster };
      due_is = is.due_is;
      result = p.result;
      last = p.last;
      stands = p.stands;
      written = p.written;
    }

    -- no call was made, for want of memory, or the logger was played
    worked : (contents : Contents) (source shelf : Type 0) → IsSource (source_for contents) x →
        (s : Status) →
        PlaysWatch x w.polls items now a b s →
        (IsApart first last × Ran a b (unwatched_answer (source_for contents)) false source shelf s)
        ⊎ WatchesLogs w (source_for contents) first last s
    worked contents source shelf is s (inl none) = inl (
      record { station = none.calls; post = refl; chance = refl },
      subst (Ran a b (unwatched_answer (source_for contents)) false source shelf) (sym none.lacks)
          none.written,
    )
    worked contents source shelf is s (inr some) = inr (watches (source_for contents) is s some)

    pub a_source : (s : Status) → PlaysWatch x w.polls items now a b s →
        Works (watch_law w) first last s
    a_source s p = works (watch_law w) (watch_holds w) first last s (record {
      calls = o.calls;
      read = h';
      files = record { reads = o.reads; due = o.ready };
      asked = refl;
      input = record { same = refl; grows = grows_none rest.input.seen };
      text = λ contents behind m. worked contents _ _ (o.due contents m.given) s p;
      memory = where_no_memory s ((watch_law w).memory ≡ true) refl;
      faults = counts s p;
      untouched = record {
        over = λ contents behind m over. refl;
        no_memory = where_no_memory s ((watch_law w).first ≡ true → rest.input ≡ rest.input)
            (λ e. refl);
      };
      over = tt;
    })
