-- Readings: lines that are read and answered, and the ends to which reading comes.
use Rattle.std.proofs.Common.{◌≡◌, ◌+◌, ℕ, Bool, true, false, List, [], ◌∷◌, ◌++◌, ◌<◌, length, refl, ap, subst, sym, ◌∙◌, nat_lt}
use Rattle.std.specs.Prelude.{◌||◌, nat_le, if◌then◌else◌, Result, Ok, Err}
use Rattle.std.proofs.lemmas.Bool.{lt-ltb}
use Rattle.definitions.specs.declared.limits.TheConstants.{LONGEST_LINE, MOST_LINES}
use Rattle.definitions.specs.World.{Game}
use Rattle.station.specs.Since.{since}
use Rattle.station.specs.Sinks.{SinkState, after_bytes}
use Rattle.station.specs.Sources.{SourceState}
use Rattle.line_io.specs.Lines.{IsOpen, StartsLonger}
use Rattle.line_io.specs.Inputs.{AtEnd, AtFault, End, Ending, Fault, Input, Line, MayFollow, input_of, lines_then}
use Rattle.line_io.specs.Readings.{Drew}
use Rattle.line_io.specs.Texts.{CutShort}
use Rattle.line_io.proofs.Drawing.{drew_on}
use Rattle.line_io.proofs.Inputs.{line_read}
use Rattle.line_io.proofs.Writing.{bytes_none}
use Rattle.run_frame.specs.Frame.{Answer, Ends, Onward, bare_answer, is_input_fault}
use Rattle.run_frame.specs.Turns.{Plays, PlaysOn, PlaysTurn}
use Rattle.run_frame.specs.declared.statuses.Status.{Status}
use Rattle.run_frame.specs.declared.statuses.Status.TheVariants.{BadLine, Done, InputFault, NoMemory, OutputFault}
use Rattle.run_frame.specs.declared.statuses.TextName.TheVariants.{Script}
use Rattle.run_frame.proofs.Frames.{onward_same, plays_ends}
use Rattle.schedule.specs.Tables.{TableState}
use Rattle.schedule_command.specs.declared.grammar.ScheduleLine.TheVariants as says
use Rattle.schedule_command.specs.Grammar.{line_of}
use Rattle.schedule_command.specs.Played.{AnswersLine, Comes, EndsOrLacks, OnErrEnd, PlaysOrLacks, is_end}
use Rattle.schedule_command.specs.Schedule.{is_too_much, said_behind, schedule_from}

-- a status that is all that is due ends the run, and nothing is written
pub bare_ends : (a b : SinkState) (p : Answer) (s : Status) → b ≡ a → p ≡ bare_answer s → (b ≡ after_bytes a p.body) × (s ≡ p.status)
bare_ends a b p s same e = (same ∙ sym (bytes_none a) ∙ ap (λ (r : Answer). after_bytes a r.body) (sym e), ap (λ (r : Answer). r.status) (sym e))

-- The source was read to its end, and what was due is now due by this input.
pub record Came (source source' : SourceState) (due : Input → Answer) (held : List ℕ) (rest : Answer) : Type 0 where
  pub drew : Drew source source' false
  pub over : source'.ended ≡ true
  pub rest_is : (behind : List ℕ) → MayFollow source'.ended behind → due (input_of AtEnd ((held ++ since source.seen source'.seen) ++ behind)) ≡ rest

-- a run that has read its source to its end
module _ (i j : SourceState) (due : Input → Answer) (held : List ℕ) (rest : Answer) (c : Came i j due held rest) where
  ends_so : (a b : SinkState) (s : Status) → Ends a b rest s → (behind : List ℕ) → MayFollow j.ended behind → Ends a b (due (input_of AtEnd ((held ++ since i.seen j.seen) ++ behind))) s
  ends_so a b s e behind m = subst (λ (p : Answer). Ends a b p s) (sym (c.rest_is behind m)) e

  pub come_plays : (a b : SinkState) (s : Status) → is_input_fault s ≡ false → Ends a b rest s → Plays i j a b due held s
  come_plays a b NoMemory f e = absurd e
  come_plays a b InputFault f e = absurd (let never : true ≡ false = f in cc)
  come_plays a b OutputFault f e = record { drew = c.drew; ends = ends_so a b OutputFault e; over = tt }
  come_plays a b Done f e = record { drew = c.drew; ends = ends_so a b Done e; over = c.over }
  come_plays a b s f e = record { drew = c.drew; ends = ends_so a b s e; over = tt }

  pub comes : Comes i j due held rest
  comes = record { drew = c.drew; over = c.over; plays = come_plays }

pub come_plays_or : (i j : SourceState) (a b : SinkState) (due : Input → Answer) (held : List ℕ) (rest : Answer) → Comes i j due held rest → (s : Status) → is_input_fault s ≡ false → EndsOrLacks a b rest s →
    PlaysOrLacks i j a b due held s
come_plays_or i j a b due held rest c NoMemory f e = (c.drew, e)
come_plays_or i j a b due held rest c s f e = c.plays a b s f e

-- a run that came to a status, and one that did so behind lines
pub or_lacks : (i j : SourceState) (a b : SinkState) (due : Input → Answer) (held : List ℕ) (s : Status) → Plays i j a b due held s → PlaysOrLacks i j a b due held s
or_lacks i j a b due held NoMemory p = absurd (p.ends [] (λ e. refl))
or_lacks i j a b due held s p = p

pub on_or_lacks : (i j k : SourceState) (a b : SinkState) (due mid : Input → Answer) (x y : List ℕ) (s : Status) → PlaysOn i j a a due mid x y → PlaysOrLacks j k a b mid y s → PlaysOrLacks i k a b due x s
on_or_lacks i j k a b due mid x y NoMemory u v = (drew_on i j k false u.drew v.0, v.1)
on_or_lacks i j k a b due mid x y s u v = plays_ends i j k a a b due mid x y s u v

-- a line was read
module _ (i j : SourceState) (held held' line : List ℕ) (drew : Drew i j false) (uncut : IsOpen line) (is : held ++ since i.seen j.seen ≡ line ++ 10 ∷ held') where
  line_is : (ending : Ending) (behind : List ℕ) → input_of ending ((held ++ since i.seen j.seen) ++ behind) ≡ Line line (input_of ending (held' ++ behind))
  line_is ending behind = line_read ending (held ++ since i.seen j.seen) line held' behind uncut is

  -- and the run goes on
  pub line_on : (a b : SinkState) (due rest : Input → Answer) → ((input : Input) → Onward a b (due (Line line input)) (rest input)) → PlaysOn i j a b due rest held held'
  line_on a b due rest o = record {
    drew = drew;
    onward = λ ending behind.
        subst (λ (n : Input). Onward a b (due n) (rest (input_of ending (held' ++ behind)))) (sym (line_is ending behind)) (o (input_of ending (held' ++ behind)));
  }

  -- and is in no grammar
  pub line_bad : (a b : SinkState) (due : Input → Answer) (n : ℕ) → b ≡ a → ((input : Input) → due (Line line input) ≡ bare_answer (BadLine Script n)) → Plays i j a b due held (BadLine Script n)
  line_bad a b due n same e = record {
    drew = drew;
    ends = λ behind m. bare_ends a b _ (BadLine Script n) same (ap due (line_is AtEnd behind) ∙ e (input_of AtEnd (held' ++ behind)));
    over = tt;
  }

  -- and the sink failed in its answer
  pub line_failed : (a b : SinkState) (due : Input → Answer) → ((input : Input) → CutShort a b (due (Line line input)).body) → Plays i j a b due held OutputFault
  line_failed a b due e = record {
    drew = drew;
    ends = λ behind m. subst (λ (n : Input). CutShort a b (due n).body) (sym (line_is AtEnd behind)) (e (input_of AtEnd (held' ++ behind)));
    over = tt;
  }

  -- and is answered so
  pub line_turns : (a b : SinkState) (due rest : Input → Answer) (n : ℕ) (r : Result (Unit {0}) Status) → ((input : Input) → AnswersLine a b (due (Line line input)) (rest input) n r) →
      PlaysTurn i j a b due rest held held' r
  line_turns a b due rest n (Ok done) h = line_on a b due rest h
  line_turns a b due rest n (Err OutputFault) h = line_failed a b due h
  line_turns a b due rest n (Err s) h =
      let first = h End in
      subst (λ (t : Status). Plays i j a b due held t) (sym first.0) (line_bad a b due n first.1 (λ input. (h input).2))

-- an answered line that ends the run
module _ (a b : SinkState) (due rest : Answer) (n : ℕ) where
  pub line_ends : (s : Status) → AnswersLine a b due rest n (Err s) → Ends a b due s
  line_ends OutputFault h = h
  line_ends s h = subst (Ends a b due) (sym h.0) (bare_ends a b due (BadLine Script n) h.1 h.2)

  -- is no fault of the source, and not the command's end
  pub line_calm : (s : Status) → AnswersLine a b due rest n (Err s) → is_input_fault s ≡ false
  line_calm OutputFault h = refl
  line_calm s h = ap is_input_fault h.0

  pub line_over : (P : Type 0) (r : Result (Unit {0}) Status) → AnswersLine a b due rest n r → OnErrEnd r P
  line_over P (Ok done) h = tt
  line_over P (Err OutputFault) h = λ e. absurd (let never : false ≡ true = e in cc)
  line_over P (Err s) h = λ e. absurd (let never : false ≡ true = sym (ap is_end h.0) ∙ e in cc)

-- a line that is too long
pub is_overlong : (n : ℕ) (line : List ℕ) → LONGEST_LINE < length line → is_too_much n line ≡ true
is_overlong n line l = rw (lt-ltb LONGEST_LINE (length line) l) refl

pub said_overlong : (game : Game) (n : ℕ) (line : List ℕ) → LONGEST_LINE < length line → said_behind game n line ≡ says.Bad
unfolding said_behind
said_overlong game n line l = rw (is_overlong n line l) refl

pub too_long : (t : TableState) (n : ℕ) (lines : List (List ℕ)) (last : Input) → StartsLonger LONGEST_LINE lines → schedule_from t n (lines_then lines last) ≡ bare_answer (BadLine Script (n + 1))
too_long t n [] last l = absurd l
too_long t n (line ∷ lines) last l = rw (said_overlong t.game n line l) refl

-- a run over an input that has ended came to a status
pub ends_or_lacks : (a b : SinkState) (due : Answer) (s : Status) → Ends a b due s → EndsOrLacks a b due s
ends_or_lacks a b due NoMemory e = absurd e
ends_or_lacks a b due s e = e
