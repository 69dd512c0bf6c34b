-- Plays: a line that is read and answered, and the ends to which reading comes.
use Rattle.std.proofs.Common.{◌≡◌, ℕ, Bool, true, false, Option, Some, None, List, ◌∷◌, ◌++◌, refl, ap, subst, sym, ◌∙◌}
use Rattle.std.specs.Prelude.{Result, Ok, Err}
use Rattle.definitions.specs.Findings.{is_clean}
use Rattle.station.specs.Since.{since}
use Rattle.station.specs.Sinks.{SinkState}
use Rattle.station.specs.Sources.{SourceState}
use Rattle.line_io.specs.Lines.{IsOpen}
use Rattle.run_frame.specs.Frame.{Answer, Ends, Onward}
use Rattle.line_io.specs.Inputs.{AtEnd, AtFault, End, Ending, Fault, Input, Line, MayFollow, ending_of, input_of}
use Rattle.line_io.specs.Readings.{Drew}
use Rattle.run_frame.specs.Turns.{Plays, PlaysTurn, Turns}
use Rattle.run_frame.specs.declared.statuses.Status.{Status}
use Rattle.run_frame.specs.declared.statuses.Status.TheVariants.{Caught, Done, InputFault, NoMemory, OutputFault}
use Rattle.line_io.proofs.Drawing.{drew_none}
use Rattle.line_io.proofs.Inputs.{line_read}
use Rattle.drive_command.specs.Drive.{drive_from, status_for}
use Rattle.drive_command.specs.Driven.{Driven}
use Rattle.drive_command.specs.Outcomes.{driven_from}
use Rattle.drive_command.proofs.Ends.{driven_status}
use Rattle.drive_command.proofs.LineOutcomes.{comes_to_end}

-- what is due by an input that is read to its end is no fault of the source, and by one that is cut by a fault it is never done
no_fault : (clean : Bool) (bad : Option ℕ) → InputFault ≡ status_for clean bad AtEnd → ⊥
no_fault false bad e = cc
no_fault true (Some n) e = cc
no_fault true None e = cc

not_done : (clean : Bool) (bad : Option ℕ) → Done ≡ status_for clean bad AtFault → ⊥
not_done false bad e = cc
not_done true (Some n) e = cc
not_done true None e = cc

due_no_fault : (d : Driven) (input : Input) → ending_of input ≡ AtEnd → InputFault ≡ (driven_from d input).status → ⊥
due_no_fault d input ends e = let s = driven_status d input in no_fault s.0 s.1 (e ∙ s.2 ∙ ap (status_for s.0 s.1) ends)

due_not_done : (d : Driven) (input : Input) → ending_of input ≡ AtFault → Done ≡ (driven_from d input).status → ⊥
due_not_done d input ends e = let s = driven_status d input in not_done s.0 s.1 (e ∙ s.2 ∙ ap (status_for s.0 s.1) ends)

pub caught_status : (d : Driven) (input : Input) → is_clean d.game d.state.log ≡ false → (driven_from d input).status ≡ Caught
caught_status d input c = ap (λ (a : Answer). a.status) (comes_to_end d.game d.me d.state.log (drive_from d.game d.me d.state d.lines input) c)

-- a run whose log has a finding ends without a look at its input
module _ (i : SourceState) (a b : SinkState) (d : Driven) (held : List ℕ) (found : is_clean d.game d.state.log ≡ false) where
  pub caught_plays : (s : Status) → ((input : Input) → Ends a b (driven_from d input) s) → Plays i i a b (driven_from d) held s
  caught_plays NoMemory e = absurd (e End)
  caught_plays InputFault e = absurd (let never : InputFault ≡ Caught = (e End).1 ∙ caught_status d End found in cc)
  caught_plays Done e = absurd (let never : Done ≡ Caught = (e End).1 ∙ caught_status d End found in cc)
  caught_plays OutputFault e = record { drew = drew_none i; ends = λ behind m. e _; over = tt }
  caught_plays s e = record { drew = drew_none i; ends = λ behind m. e _; over = tt }

-- a run that has read its source to its end
module _ (i j : SourceState) (a b : SinkState) (d : Driven) (held : List ℕ) (drew : Drew i j false) (over : j.ended ≡ true) (input : Input) (ends : ending_of input ≡ AtEnd)
    (is : (behind : List ℕ) → MayFollow j.ended behind → input_of AtEnd ((held ++ since i.seen j.seen) ++ behind) ≡ input) where
  pub ended_plays : (s : Status) → Ends a b (driven_from d input) s → Plays i j a b (driven_from d) held s
  ended_plays NoMemory e = absurd e
  ended_plays InputFault e = absurd (due_no_fault d input ends e.1)
  ended_plays OutputFault e = record { drew = drew; ends = λ behind m. subst (λ (i : Input). Ends a b (driven_from d i) OutputFault) (sym (is behind m)) e; over = tt }
  ended_plays Done e = record { drew = drew; ends = λ behind m. subst (λ (i : Input). Ends a b (driven_from d i) Done) (sym (is behind m)) e; over = over }
  ended_plays s e = record { drew = drew; ends = λ behind m. subst (λ (i : Input). Ends a b (driven_from d i) s) (sym (is behind m)) e; over = tt }

-- a line was read and answered
module _ (i j : SourceState) (a b : SinkState) (d d' : Driven) (held held' line : List ℕ) (drew : Drew i j false) (uncut : IsOpen line) (is : held ++ since i.seen j.seen ≡ line ++ 10 ∷ held') where
  due_line : (ending : Ending) (behind : List ℕ) → input_of ending ((held ++ since i.seen j.seen) ++ behind) ≡ Line line (input_of ending (held' ++ behind))
  due_line ending behind = line_read ending (held ++ since i.seen j.seen) line held' behind uncut is

  ends_so : (s : Status) → ((input : Input) → Ends a b (driven_from d (Line line input)) s) → (behind : List ℕ) → Ends a b (driven_from d (input_of AtEnd ((held ++ since i.seen j.seen) ++ behind))) s
  ends_so s e behind = subst (λ (i : Input). Ends a b (driven_from d i) s) (sym (due_line AtEnd behind)) (e (input_of AtEnd (held' ++ behind)))

  over_plays : (s : Status) → ((input : Input) → Ends a b (driven_from d (Line line input)) s) → Plays i j a b (driven_from d) held s
  over_plays NoMemory e = absurd (e End)
  over_plays InputFault e = absurd (due_no_fault d (Line line End) refl (e End).1)
  over_plays Done e = absurd (due_not_done d (Line line Fault) refl (e Fault).1)
  over_plays OutputFault e = record { drew = drew; ends = λ behind m. ends_so OutputFault e behind; over = tt }
  over_plays s e = record { drew = drew; ends = λ behind m. ends_so s e behind; over = tt }

  pub line_plays : (turn : Result (Unit {0}) Status) → ((input : Input) → Turns a b (driven_from d (Line line input)) (driven_from d' input) turn) →
      PlaysTurn i j a b (driven_from d) (driven_from d') held held' turn
  line_plays (Ok done) turned = record {
    drew = drew;
    onward = λ ending behind.
        subst (λ (i : Input). Onward a b (driven_from d i) (driven_from d' (input_of ending (held' ++ behind)))) (sym (due_line ending behind)) (turned (input_of ending (held' ++ behind)));
  }
  line_plays (Err s) turned = over_plays s turned
