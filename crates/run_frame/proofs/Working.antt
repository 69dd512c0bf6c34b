-- Working: what a law shows of itself, what a run shows before the line of its status, and what both make of the promises.
use Rattle.std.proofs.Common.{◌≡◌, ◌⊎◌, inl, inr, ℕ, Bool, true, false, List, [], ◌∷◌, ◌++◌, append-nil, Option, Some, zero, suc, refl, ap, sym, ◌∙◌, subst}
use Rattle.std.specs.Prelude.{map}
use Rattle.definitions.specs.Lists.{item_or}
use Rattle.station.specs.Outside.{Rose}
use Rattle.station.specs.Pieces.{AllGive, Piece}
use Rattle.station.specs.Shelves.{ShelfState}
use Rattle.station.specs.Since.{grows_none}
use Rattle.station.specs.Sinks.{SinkState}
use Rattle.line_io.specs.Files.{AreContents, AreReadings, Calls, Contents, content}
use Rattle.line_io.specs.Fronts.{bytes_read}
use Rattle.line_io.specs.Inputs.{AtEnd, End, Input, ending_of, input_of, lines_then}
use Rattle.line_io.specs.Lines.{lines_of}
use Rattle.line_io.proofs.Contents.{reading_fits}
use Rattle.line_io.proofs.Unread.{none_in_turn, none_read, none_readings}
use Rattle.run_frame.specs.Ends.{Finished, Refuses}
use Rattle.run_frame.specs.Frame.{Answer, Lacked, OnNoMemory, Ran}
use Rattle.run_frame.specs.Law.{HasCause, Law, ReadsFor}
use Rattle.run_frame.specs.Outside.{Answered, CountsFaults, IsApart, OneFailed, Outside, answered_by, with_output}
use Rattle.run_frame.specs.Runs.{Acts, ForAny, Played, LeavesAlone, MayBe, ReadsOn, Runs, Works, read_by}
use Rattle.run_frame.specs.Turns.{input_by}
use Rattle.run_frame.specs.declared.statuses.Status.{Status}
use Rattle.run_frame.specs.declared.statuses.Status.TheVariants.{NoMemory, InputFault, OutputFault}
use Rattle.run_frame.proofs.Counts.{memory_stays, refused_counts}
use Rattle.run_frame.proofs.Finish.{finished}
use Rattle.line_io.proofs.Writing.{bytes_none}

-- What a law shows of itself: each status that is due has its cause, and what is good comes to its end.
pub record Holds (law : Law) : Type 0 where
  pub caused : (contents : Contents) (input : Input) → ending_of input ≡ AtEnd → HasCause law contents input (law.answer contents input).status
  pub done : (contents : Contents) (input : Input) (answered : Answered) → ending_of input ≡ AtEnd → law.good contents input answered →
      law.ends (law.answer contents input).status ⊎ ((law.answer contents input).status ≡ NoMemory)
  pub meant : (contents : Contents) (input : Input) → law.meant contents input
  -- nothing is read where memory is wanting at first
  pub unread : (shelf : ShelfState) → law.due shelf shelf (none_read law.names)
  -- nothing need be asked of the shelf but those files
  pub unasked : (shelf : ShelfState) → law.asks shelf shelf
  pub unremembered : (ended : Bool) → law.through NoMemory ended
  -- a run whose output failed came to no end
  pub cut : (ended : Bool) → law.through OutputFault ended
  -- where calls of the station or the post are made, the same
  pub played_cause : (contents : Contents) (input : Input) (before after : Outside) (s : Status) → law.plays contents before after s → HasCause law contents input s
  pub played_done : (contents : Contents) (input : Input) (before after : Outside) (s : Status) → law.plays contents before after s → law.good contents input (answered_by after) →
      ¬ Rose before.shelf.faults after.shelf.faults → ¬ Rose before.output.faults after.output.faults → law.ends s

-- What a run shows before the line of its status.
pub record Worked (law : Law) (before after : Outside) (s : Status) : Type 0 where
  pub calls : Calls
  pub read : ShelfState
  pub files : ReadsFor law before.shelf read calls
  pub asked : law.asks read after.shelf
  pub input : ReadsOn before.input after.input
  pub text : ForAny after calls (λ contents behind.
      (IsApart before after × Ran before.output after.output (law.answer contents (input_by s (read_by before after) behind)) law.late
      (Rose before.input.faults after.input.faults) (Rose before.shelf.faults after.shelf.faults × (after.input ≡ before.input)) s)
      ⊎ law.plays contents before after s)
  pub memory : OnNoMemory s (law.memory ≡ true)
  pub faults : CountsFaults before after s
  pub untouched : LeavesAlone law before after calls s
  pub over : law.through s after.input.ended

-- some contents give what was answered
abbrev pub some_contents : Calls → Contents
some_contents calls = map (λ pieces. Some (bytes_read pieces)) calls

pub readings_fit : (files : Option (List ℕ → Option (List ℕ))) (names : List (List ℕ)) (calls : Calls) → AreReadings files names calls → AreContents (some_contents calls) calls
readings_fit files [] calls r n = subst (λ (c : Calls). AllGive (content (some_contents c) n) (item_or c n [])) (sym r) tt
readings_fit files (name ∷ names) [] r n = absurd r
readings_fit files (name ∷ names) (pieces ∷ calls) r zero = reading_fits name pieces r.0
readings_fit files (name ∷ names) (pieces ∷ calls) r (suc n) = readings_fit files names calls r.2 n

pub contents_fit : (law : Law) (before after : ShelfState) (calls : Calls) → ReadsFor law before after calls → AreContents (some_contents calls) calls
contents_fit law before after calls r = readings_fit before.files law.names calls r.reads.readings

-- an input that is read to its end
pub ends_at_end : (bytes : List ℕ) → ending_of (input_of AtEnd bytes) ≡ AtEnd
ends_at_end bytes = go (lines_of bytes)
  where
    go : (lines : List (List ℕ)) → ending_of (lines_then lines End) ≡ AtEnd
    go [] = refl
    go (line ∷ lines) = go lines

-- what holds of the status that is due, of want of memory and of faults holds of the status that comes
module _ (before now : SinkState) (whole cut : Answer) (late : Bool) (source shelf : Type 0) where
  pub finished_cause : (P : Status → Type 0) (s : Status) → Finished before now whole cut late source shelf s → P whole.status → P NoMemory → P InputFault → P OutputFault → P s
  finished_cause P NoMemory f p m i o = m
  finished_cause P InputFault f p m i o = i
  finished_cause P OutputFault f p m i o = o
  finished_cause P s f p m i o = subst P (sym f.0) p

  -- a run that nothing outside cuts short comes to what is due, unless memory is wanting
  pub completed : (b a : Outside) (s : Status) → Finished before now whole cut late source shelf s → CountsFaults b a s →
      ¬ Rose b.input.faults a.input.faults → ¬ Rose b.shelf.faults a.shelf.faults → ¬ Rose b.output.faults a.output.faults → (s ≡ whole.status) ⊎ (s ≡ NoMemory)
  completed b a NoMemory f c i h o = inr refl
  completed b a InputFault f c i h o = absurd (neither c.0)
    where
      neither : OneFailed b a → ⊥
      neither (inl r) = i r.0
      neither (inr r) = h r.1
  completed b a OutputFault f c i h o = absurd (o c.1)
  completed b a s f c i h o = inl f.0

-- where the output's fault is told, it was counted
output_failed : (b a : Outside) (s : Status) → CountsFaults b a s → s ≡ OutputFault → Rose b.output.faults a.output.faults
output_failed b a s counts e = let c : CountsFaults b a OutputFault = subst (CountsFaults b a) e counts in c.1

-- how a run ends that is good
comes : (ends : Status → Type 0) (s due : Status) (apart : Type 0) → apart → ends due ⊎ (due ≡ NoMemory) → (s ≡ due) ⊎ (s ≡ NoMemory) → ends s ⊎ ((s ≡ NoMemory) × apart)
comes ends s due apart a (inl d) (inl e) = inl (subst ends (sym e) d)
comes ends s due apart a (inr d) (inl e) = inr (e ∙ d, a)
comes ends s due apart a d (inr e) = inr (e, a)

-- the line of its status ends a run
module _ (law : Law) (holds : Holds law) (before mid : Outside) (s : Status) (w : Worked law before mid s) (output : SinkState) (told : Status) (r : Refuses mid.output output s told) where
  abbrev after : Outside
  after = with_output mid output

  before_line : {contents : Contents} {behind : List ℕ} → MayBe after w.calls contents behind → MayBe mid w.calls contents behind
  before_line m = record { given = m.given; follows = m.follows }

  through_stays : Refuses mid.output output s told → law.through told mid.input.ended
  through_stays (inl h) = subst (λ (x : Status). law.through x mid.input.ended) (sym h.0) w.over
  through_stays (inr h) = subst (λ (x : Status). law.through x mid.input.ended) (sym h.0) (holds.cut mid.input.ended)

  text : (contents : Contents) (behind : List ℕ) → MayBe after w.calls contents behind → Acts law before after told contents behind
  text contents behind m = elim (w.text contents behind (before_line m)) [
    | inl (apart, ran) ↦ inl (record { station = apart.station; post = apart.post; chance = apart.chance }, finished before.output mid.output output (read_by before after) behind (law.answer contents) law.late _ _ told s ran r)
    | inr p ↦ inr (record { output = mid.output; ended = s; plays = p; line = r })
  ]

  faults : CountsFaults before after told
  faults = refused_counts before mid output s told r w.faults

  -- the line changes nothing of why a run ended so, and a run that comes to its end has its line
  caused_on : (contents : Contents) (input : Input) → Played law contents before after told → HasCause law contents input told
  caused_on contents input p = elim p.line [
    | inl h ↦ subst (HasCause law contents input) (sym h.0) (holds.played_cause contents input before _ p.ended p.plays)
    | inr h ↦ subst (HasCause law contents input) (sym h.0) tt
  ]

  done_on : (contents : Contents) (input : Input) → Played law contents before after told → law.good contents input (answered_by after) →
      ¬ Rose before.shelf.faults after.shelf.faults → ¬ Rose before.output.faults after.output.faults → law.ends told
  done_on contents input p good fs fo = elim p.line [
    | inl h ↦ subst law.ends (sym h.0) (holds.played_done contents input before _ p.ended p.plays good fs
        (subst (λ (o : SinkState). ¬ Rose before.output.faults o.faults) h.1 fo))
    | inr h ↦ absurd (fo (output_failed before after told faults h.0))
  ]

  cause : (contents : Contents) (behind : List ℕ) → MayBe after w.calls contents behind → HasCause law contents (input_of AtEnd (read_by before after ++ behind)) told
  cause contents behind m = elim (text contents behind m) [
    | inl (apart, f) ↦ finished_cause _ _ _ _ _ _ _ (HasCause law contents (input_of AtEnd (read_by before after ++ behind))) told f (holds.caused contents _ (ends_at_end (read_by before after ++ behind))) tt tt tt
    | inr p ↦ caused_on contents _ p
  ]

  done : (contents : Contents) (behind : List ℕ) → MayBe after w.calls contents behind → law.good contents (input_of AtEnd (read_by before after ++ behind)) (answered_by after) →
      ¬ Rose before.input.faults after.input.faults → ¬ Rose before.shelf.faults after.shelf.faults → ¬ Rose before.output.faults after.output.faults →
      law.ends told ⊎ ((told ≡ NoMemory) × IsApart before after)
  done contents behind m good fi fs fo = elim (text contents behind m) [
    | inl (apart, f) ↦ comes law.ends told _ (IsApart before after) apart (holds.done contents _ (answered_by after) (ends_at_end (read_by before after ++ behind)) good)
        (completed _ _ _ _ _ _ _ before after told f faults fi fs fo)
    | inr p ↦ inl (done_on contents _ p good fs fo)
  ]

  ran : Runs law before after told
  ran = record {
    calls = w.calls;
    read = w.read;
    files = w.files;
    asked = w.asked;
    input = w.input;
    possible = record {
      contents = some_contents w.calls;
      behind = [];
      may = record { given = contents_fit law before.shelf w.read w.calls w.files; follows = λ e. refl };
    };
    text = text;
    caused = cause;
    memory = memory_stays (law.memory ≡ true) mid.output output s told r w.memory;
    faults = faults;
    untouched = record {
      over = λ contents behind m over. w.untouched.over contents behind (before_line m) over;
      no_memory = memory_stays (law.first ≡ true → mid.input ≡ before.input) mid.output output s told r w.untouched.no_memory;
    };
    complete = record { done = done; over = through_stays r };
    meant = holds.meant;
  }

pub works : (law : Law) → Holds law → (before after : Outside) (s : Status) → Worked law before after s → Works law before after s
works law holds before after s w = λ output told r. ran law holds before after s w output told r

-- memory was wanting before anything was read
pub lacked_none : (late : Bool) (a : SinkState) (text : List ℕ) → Lacked late a a text
lacked_none false a text = refl
lacked_none true a text = ([], (text, refl), sym (bytes_none a))

pub unremembered : (law : Law) → Holds law → law.memory ≡ true → (outside : Outside) → Works law outside outside NoMemory
unremembered law holds memory outside = works law holds outside outside NoMemory (record {
  calls = none_read law.names;
  read = outside.shelf;
  files = record {
    reads = record {
      same = refl;
      answered = sym (append-nil outside.shelf.pieces) ∙ ap (λ (x : List Piece). outside.shelf.pieces ++ x) (sym (none_in_turn law.names));
      readings = none_readings outside.shelf.files law.names;
    };
    due = holds.unread outside.shelf;
  };
  asked = holds.unasked outside.shelf;
  input = record { same = refl; grows = grows_none outside.input.seen };
  text = λ contents behind m. inl (record { station = refl; post = refl; chance = refl }, lacked_none law.late outside.output _);
  memory = memory;
  faults = (record { source = refl; files = refl }, refl);
  untouched = record { over = λ contents behind m over. refl; no_memory = λ first. refl };
  over = holds.unremembered outside.input.ended;
})
