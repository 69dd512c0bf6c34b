-- Scheduled: a run of the command to step a match.
use Rattle.std.proofs.Common.{◌≡◌, inl, ℕ, false, true, List, [], refl, ap, sym, ◌∙◌, subst}
use Rattle.std.specs.Prelude.{Result, Ok, Err}
use Rattle.station.specs.Outside.{Rose, faults_behind}
use Rattle.station.specs.Shelves.{ShelfState}
use Rattle.station.specs.Since.{since}
use Rattle.station.specs.Sinks.{SinkState}
use Rattle.station.specs.Sources.{SourceState}
use Rattle.definitions.specs.World.{Game}
use Rattle.line_io.specs.Files.{content}
use Rattle.line_io.specs.Inputs.{Input, MayFollow}
use Rattle.run_frame.specs.Frame.{Answer, Ran, is_input_fault}
use Rattle.run_frame.specs.Turns.{Plays, input_by}
use Rattle.run_frame.specs.declared.statuses.Status.{Status}
use Rattle.run_frame.specs.declared.statuses.Status.TheVariants.{BadSession, Caught, Done, InputFault, NoMemory}
use Rattle.schedule_command.specs.Causes.{NeedsNoInput, answer_in}
use Rattle.schedule_command.specs.Played.{OnEnd, PlaysOrLacks}
use Rattle.schedule_command.specs.Schedule.{schedule_answer}
use Rattle.run_frame.specs.Sessions.{OpensSession, IsDue, session_in}
use Rattle.run_frame.specs.Outside.{CountsFaults, Outside, with_input}
use Rattle.run_frame.specs.Runs.{ReadsOn, Works}
use Rattle.run_frame.proofs.Alone.{IsRefused}
use Rattle.run_frame.proofs.OverInput.{ended_ran, source_failed}
use Rattle.run_frame.proofs.Working.{works}
use Rattle.schedule_command.specs.ScheduleLaw.{schedule_law}
use Rattle.schedule_command.proofs.ScheduleHolds.{schedule_holds}
use Rattle.run_frame.proofs.Counts.{ended_counts, where_no_memory}
use Rattle.run_frame.proofs.SessionRead.{session_calls, session_read}

-- A run over its input, or want of memory behind some of it.
module _ (i i' : SourceState) (a b : SinkState) (due : Input → Answer) where
  lacks_reads : (s : Status) → PlaysOrLacks i i' a b due [] s → ReadsOn i i'
  lacks_reads NoMemory p = record { same = p.0.same; grows = p.0.grows }
  lacks_reads s p = record { same = p.drew.same; grows = p.drew.grows }

  lacks_ran : (shelf : Type 0) (s : Status) → PlaysOrLacks i i' a b due [] s → (behind : List ℕ) → MayFollow i'.ended behind →
      Ran a b (due (input_by s (since i.seen i'.seen) behind)) false (Rose i.faults i'.faults) shelf s
  lacks_ran shelf NoMemory p behind m = p.1
  lacks_ran shelf s p behind m = ended_ran (Rose i.faults i'.faults) shelf a b (due (input_by s (since i.seen i'.seen) behind)) s (p.ends behind m) (source_failed i i' a b due [] s p)

  lacks_counts : (rest : Outside) (h h' : ShelfState) (s : Status) → h'.faults ≡ h.faults → PlaysOrLacks i i' a b due [] s → CountsFaults (with_input rest i a h) (with_input rest i' b h') s
  lacks_counts rest h h' NoMemory f p = (record { source = p.0.counted; files = f }, ap (λ (s : SinkState). s.faults) p.1)
  lacks_counts rest h h' s f p = ended_counts (with_input rest i a h) (with_input rest i' b h') (due (input_by s (since i.seen i'.seen) [])) s p.drew f (p.ends [] (λ e. refl))

needs_none : (due : Result Game Status) (game : Game) (P : Type 0) → due ≡ Ok game → NeedsNoInput due → P
needs_none due game P e n = let never : NeedsNoInput (Ok game) = subst NeedsNoInput e n in absurd never

module _ (rest : Outside) (i i' : SourceState) (a b : SinkState) (h h' : ShelfState) (session : List ℕ) (game : Game) (s : Status) where
  pub scheduled : OpensSession h h' session (Ok game) → PlaysOrLacks i i' a b (schedule_answer game) [] s → OnEnd s (i'.ended ≡ true) →
      Works (schedule_law session) (with_input rest i a h) (with_input rest i' b h') s
  scheduled o p over = works (schedule_law session) (schedule_holds session) (with_input rest i a h) (with_input rest i' b h') s (record {
    calls = session_calls h h';
    read = h';
    files = record { reads = session_read h h' session (Ok game) o; due = tt };
    asked = refl;
    input = lacks_reads i i' a b (schedule_answer game) s p;
    text = λ contents behind m. inl (
      record { station = refl; post = refl; chance = refl },
      subst (λ (x : Answer). Ran a b x false (Rose i.faults i'.faults) (Rose h.faults h'.faults × (i' ≡ i)) s) (sym (ap (λ (r : Result Game Status). answer_in r (input_by s (since i.seen i'.seen) behind)) (o.due (content contents 0) (m.given 0))))
          (lacks_ran i i' a b (schedule_answer game) (Rose h.faults h'.faults × (i' ≡ i)) s p behind m.follows),
    );
    memory = where_no_memory s ((schedule_law session).memory ≡ true) refl;
    faults = lacks_counts i i' a b (schedule_answer game) rest h h' s o.fetched.counted p;
    untouched = record {
      over = λ contents behind m n. needs_none (session_in (content contents 0)) game (i' ≡ i) (o.due (content contents 0) (m.given 0)) n;
      no_memory = where_no_memory s ((schedule_law session).first ≡ true → i' ≡ i) (λ e. absurd (let never : false ≡ true = e in cc));
    };
    over = over;
  })

pub refused_end : (due : Answer) (s : Status) (P : Type 0) → IsRefused due s → OnEnd s P
refused_end due Done P d = absurd d
refused_end due Caught P d = absurd d
refused_end due s P d = λ e. absurd (let never : false ≡ true = e in cc)

-- what is due for a session that is none
pub unscheduled : (due : Result Game Status) (input : Input) (s : Status) → IsDue due (Err s) → IsRefused (answer_in due input) s
unscheduled due input NoMemory d = tt
unscheduled due input InputFault d = tt
unscheduled due input (BadSession line what) d = ap (λ (r : Result Game Status). answer_in r input) d
unscheduled due input s d = absurd d
