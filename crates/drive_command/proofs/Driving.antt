-- Driving: a run of the command to drive, that begins with a peer or with none.
use Rattle.std.proofs.Common.{◌≡◌, inl, inr, false, true, ℕ, List, [], ◌∷◌, refl, ap, sym, ◌∙◌, subst}
use Rattle.std.specs.Prelude.{Result, Ok, Err}
use Rattle.station.specs.Outside.{Rose, faults_behind}
use Rattle.station.specs.Shelves.{ShelfState}
use Rattle.station.specs.Since.{grows_none}
use Rattle.station.specs.Sinks.{SinkState, after_bytes}
use Rattle.station.specs.Sources.{SourceState}
use Rattle.definitions.specs.Advance.{advance}
use Rattle.definitions.specs.Findings.{is_clean}
use Rattle.line_io.specs.Files.{Contents}
use Rattle.line_io.specs.Inputs.{Input}
use Rattle.line_io.proofs.Writing.{bytes_none}
use Rattle.run_frame.specs.Frame.{Answer, Ends, OnDone, Ran, bare_answer, is_input_fault}
use Rattle.run_frame.specs.Outside.{CountsFaults, Outside, with_files, with_input}
use Rattle.run_frame.specs.Runs.{Works}
use Rattle.run_frame.specs.Turns.{Plays}
use Rattle.run_frame.specs.declared.statuses.Status.{Status}
use Rattle.run_frame.specs.declared.statuses.Status.TheVariants.{Done, InputFault, NoMemory, OutputFault, Usage, BadSession, BadLog}
use Rattle.run_frame.proofs.Counts.{ended_counts, where_no_memory}
use Rattle.run_frame.proofs.OverInput.{ended_ran, memory_taken, source_failed}
use Rattle.run_frame.proofs.Working.{readings_fit, some_contents, works}
use Rattle.old_log.specs.declared.resuming.Resumed.{Resumed}
use Rattle.old_log.specs.Beginnings.{Beginning}
use Rattle.old_log.specs.Begun.{IsPeerFor, IsStartFor}
use Rattle.old_log.specs.Files.{OpensPeer, log_names}
use Rattle.drive_command.specs.Begin.{NeedsNoInput, begun_answer, drive_answer}
use Rattle.drive_command.specs.DriveLaw.{begins_with, drive_law}
use Rattle.drive_command.specs.Words.{Driving}
use Rattle.drive_command.proofs.DriveHolds.{drive_holds}

-- a run that begins with this peer
pub begun_ran : (source shelf : Type 0) (before now : SinkState) (s : Status) (player : ℕ) (due : Result Beginning Status) (r : Resumed) (input : Input) → IsPeerFor player due r →
    Ends before now (begun_answer r.peer.me (record { game = r.peer.game; first = r.peer.entries; dropped = r.dropped }) input) s → (s ≡ InputFault → source) →
    Ran before now (drive_answer player due input) false source shelf s
begun_ran source shelf before now s player due r input p e c =
    let b : Beginning = record { game = r.peer.game; first = r.peer.entries; dropped = r.dropped } in
    let same : drive_answer player due input ≡ begun_answer r.peer.me b input =
    ap (λ (d : Result Beginning Status). drive_answer player d input) p.due_is ∙ ap (λ me. begun_answer me b input) (sym p.player_is) in
    subst (λ (a : Answer). Ran before now a false source shelf s) (sym same) (ended_ran source shelf before now _ s e c)

-- a run that begins with none
module _ (source shelf : Type 0) (held : SinkState) (player : ℕ) (due : Result Beginning Status) (input : Input) where
  bare_ran : (s : Status) → due ≡ Err s → (held ≡ after_bytes held (drive_answer player due input).body) × (s ≡ (drive_answer player due input).status)
  bare_ran s e =
      let same : drive_answer player due input ≡ bare_answer s = ap (λ (d : Result Beginning Status). drive_answer player d input) e in
      (sym (bytes_none held) ∙ ap (λ (a : Answer). after_bytes held a.body) (sym same), ap (λ (a : Answer). a.status) (sym same))

  pub unbegun_ran : (s : Status) → IsStartFor player due (Err s) → (s ≡ InputFault → shelf) → Ran held held (drive_answer player due input) false source shelf s
  unbegun_ran NoMemory d c = refl
  unbegun_ran InputFault d c = inl (c refl, refl)
  unbegun_ran Usage d c = bare_ran Usage d
  unbegun_ran (BadSession line what) d c = bare_ran (BadSession line what) d
  unbegun_ran (BadLog log at why) d c = bare_ran (BadLog log at why) d
  unbegun_ran s d c = absurd d

-- a run that began with no peer
unbegun_counts : (rest : Outside) (a : SinkState) (h h' : ShelfState) (player : ℕ) (due : Result Beginning Status) (s : Status) → IsStartFor player due (Err s) → h'.faults ≡ faults_behind (is_input_fault s) h.faults →
    CountsFaults (with_files rest a h) (with_files rest a h') s
unbegun_counts rest a h h' player due NoMemory d e = (record { source = refl; files = e }, refl)
unbegun_counts rest a h h' player due InputFault d e = (inr (refl, e), refl)
unbegun_counts rest a h h' player due Usage d e = (record { source = refl; files = e }, refl)
unbegun_counts rest a h h' player due (BadSession line what) d e = (record { source = refl; files = e }, refl)
unbegun_counts rest a h h' player due (BadLog log at why) d e = (record { source = refl; files = e }, refl)
unbegun_counts rest a h h' player due s d e = absurd d

unbegun_done : (player : ℕ) (due : Result Beginning Status) (s : Status) → IsStartFor player due (Err s) → (P : Type 0) → OnDone s P
unbegun_done player due Done d P = absurd d
unbegun_done player due s d P = tt

-- a peer that was begun with plays the input
module _ (rest : Outside) (i i' : SourceState) (a b : SinkState) (h h' : ShelfState) (d : Driving) (r : Resumed) (s : Status) where
  needs_none : (player : ℕ) (due : Result Beginning Status) → (let begun : Result Beginning Status = Ok (record { game = r.peer.game; first = r.peer.entries; dropped = r.dropped }) in due ≡ begun) →
      r.peer.me ≡ player → NeedsNoInput player due → is_clean r.peer.game (advance r.peer.game r.peer.me r.peer.entries) ≡ false
  needs_none player due e p n =
      let begun : Result Beginning Status = Ok (record { game = r.peer.game; first = r.peer.entries; dropped = r.dropped }) in
      let over : NeedsNoInput player begun = subst (NeedsNoInput player) e n in
      ap (λ me. is_clean r.peer.game (advance r.peer.game me r.peer.entries)) p ∙ over

  abbrev due : Input → Answer
  due = begun_answer r.peer.me (record { game = r.peer.game; first = r.peer.entries; dropped = r.dropped })

  pub played : OpensPeer h h' d.session d.player d.old (Ok r) → Plays i i' a b due [] s →
      (is_clean r.peer.game (advance r.peer.game r.peer.me r.peer.entries) ≡ false → i' ≡ i) →
      Works (drive_law d) (with_input rest i a h) (with_input rest i' b h') s
  played o p left = works (drive_law d) (drive_holds d) (with_input rest i a h) (with_input rest i' b h') s (record {
    calls = o.calls;
    read = h';
    files = record { reads = o.reads; due = o.log_due };
    asked = refl;
    input = record { same = p.drew.same; grows = p.drew.grows };
    text = λ contents behind m. inl (record { station = refl; post = refl; chance = refl }, begun_ran _ _ a b s d.player _ r _ (o.due contents m.given) (p.ends behind m.follows) (source_failed i i' a b due [] s p));
    memory = where_no_memory s ((drive_law d).memory ≡ true) refl;
    faults = ended_counts (with_input rest i a h) (with_input rest i' b h') _ s p.drew o.counted (p.ends [] (λ e. refl));
    untouched = record {
      over = λ contents behind m over. let start = o.due contents m.given in left (needs_none d.player _ start.due_is start.player_is over);
      no_memory = memory_taken ((drive_law d).first ≡ true → i' ≡ i) a b _ s (p.ends [] (λ e. refl));
    };
    over = p.over;
  })

-- there is none to begin with
module _ (rest : Outside) (a : SinkState) (h h' : ShelfState) (d : Driving) (s : Status) (o : OpensPeer h h' d.session d.player d.old (Err s)) where
  start : (contents : Contents) × IsStartFor d.player (begins_with d contents) (Err s)
  start = (some_contents o.calls, o.due (some_contents o.calls) (readings_fit h.files (d.session ∷ log_names d.old) o.calls o.reads.readings))

  pub unbegun : Works (drive_law d) (with_files rest a h) (with_files rest a h') s
  unbegun = works (drive_law d) (drive_holds d) (with_files rest a h) (with_files rest a h') s (record {
    calls = o.calls;
    read = h';
    files = record { reads = o.reads; due = o.log_due };
    asked = refl;
    input = record { same = refl; grows = grows_none rest.input.seen };
    text = λ contents behind m. inl (record { station = refl; post = refl; chance = refl }, unbegun_ran _ _ a d.player _ _ s (o.due contents m.given) (λ e. (o.counted ∙ ap (λ f. faults_behind f h.faults) (ap is_input_fault e), refl)));
    memory = where_no_memory s ((drive_law d).memory ≡ true) refl;
    faults = unbegun_counts rest a h h' d.player _ s start.1 o.counted;
    untouched = record { over = λ contents behind m over. refl; no_memory = where_no_memory s ((drive_law d).first ≡ true → rest.input ≡ rest.input) (λ e. refl) };
    over = unbegun_done d.player _ s start.1 (rest.input.ended ≡ true);
  })
