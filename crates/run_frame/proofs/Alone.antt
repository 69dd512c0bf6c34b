-- Alone: a run of a command that leaves its input alone.
use Rattle.std.proofs.Common.{◌≡◌, inl, inr, ℕ, Bool, false, true, List, [], refl, ap, sym, ◌∙◌, subst}
use Rattle.std.specs.Prelude.{Result, Err}
use Rattle.station.specs.Outside.{faults_behind}
use Rattle.station.specs.Shelves.{ShelfState}
use Rattle.station.specs.Since.{grows_none}
use Rattle.station.specs.Sinks.{SinkState, after_bytes}
use Rattle.line_io.specs.Files.{AreContents, Calls, Contents}
use Rattle.line_io.specs.Inputs.{AtEnd, Input, input_of}
use Rattle.line_io.proofs.Writing.{bytes_none}
use Rattle.run_frame.specs.Frame.{Answer, Lacked, Ran, bare_answer, is_input_fault}
use Rattle.run_frame.specs.Law.{Law, ReadsFor}
use Rattle.run_frame.specs.Opening.{IsRefusedBy}
use Rattle.run_frame.specs.Outside.{CountsFaults, Outside, with_files}
use Rattle.run_frame.specs.Runs.{Works}
use Rattle.run_frame.specs.declared.statuses.Status.{Status}
use Rattle.run_frame.specs.declared.statuses.Status.TheVariants.{BadLine, BadLog, BadSeal, BadSession, InputFault, NoMemory, OutputFault, Usage}
use Rattle.run_frame.proofs.Counts.{where_no_memory}
use Rattle.run_frame.proofs.Working.{Holds, contents_fit, lacked_none, some_contents, works}

-- where neither the source nor the shelf can have failed, it is as if they could
ran_weaker : (a b : SinkState) (due : Answer) (late : Bool) (source shelf : Type 0) (s : Status) → Ran a b due late ⊥ ⊥ s → Ran a b due late source shelf s
ran_weaker a b due late source shelf NoMemory r = r
ran_weaker a b due late source shelf InputFault (inl r) = absurd r.0
ran_weaker a b due late source shelf InputFault (inr r) = absurd r.0
ran_weaker a b due late source shelf OutputFault r = r
ran_weaker a b due late source shelf s r = r

-- want of memory is no fault of the sink
lacked_counts : (late : Bool) (a b : SinkState) (text : List ℕ) → Lacked late a b text → b.faults ≡ a.faults
lacked_counts false a b text l = ap (λ (s : SinkState). s.faults) l
lacked_counts true a b text l = ap (λ (s : SinkState). s.faults) l.2

-- The answer is this refusal, which is told before anything is written; of want of memory and of a fault of the shelf nothing is said.
abbrev pub IsRefused : Answer → Status → Type 0
IsRefused due NoMemory = Unit {0}
IsRefused due InputFault = Unit {0}
IsRefused due Usage = due ≡ bare_answer Usage
IsRefused due (BadSession line what) = due ≡ bare_answer (BadSession line what)
IsRefused due (BadLine text line) = due ≡ bare_answer (BadLine text line)
IsRefused due (BadLog log at why) = due ≡ bare_answer (BadLog log at why)
IsRefused due (BadSeal file at) = due ≡ bare_answer (BadSeal file at)
IsRefused due status = ⊥

-- what is refused is told so
pub refused_so : {T : Type 0} (answer : Result T Status → Answer) → ((s : Status) → answer (Err s) ≡ bare_answer s) → (due : Result T Status) (s : Status) → IsRefusedBy due s → IsRefused (answer due) s
refused_so answer bare due NoMemory h = tt
refused_so answer bare due InputFault h = tt
refused_so answer bare due Usage h = ap answer h ∙ bare Usage
refused_so answer bare due (BadSession line what) h = ap answer h ∙ bare (BadSession line what)
refused_so answer bare due (BadLine text line) h = ap answer h ∙ bare (BadLine text line)
refused_so answer bare due (BadLog log at why) h = ap answer h ∙ bare (BadLog log at why)
refused_so answer bare due (BadSeal file at) h = ap answer h ∙ bare (BadSeal file at)
refused_so answer bare due s h = absurd h

module _ (rest : Outside) (a b : SinkState) (h h' : ShelfState) where
  ran_counts : (due : Answer) (late : Bool) (s : Status) → h'.faults ≡ h.faults → Ran a b due late ⊥ ⊥ s → CountsFaults (with_files rest a h) (with_files rest b h') s
  ran_counts due late NoMemory f r = (record { source = refl; files = f }, lacked_counts late a b due.body r)
  ran_counts due late InputFault f (inl r) = absurd r.0
  ran_counts due late InputFault f (inr r) = absurd r.0
  ran_counts due late OutputFault f r = (inl (record { source = refl; files = f }), r.rose)
  ran_counts due late s f r = (record { source = refl; files = f }, ap (λ (s : SinkState). s.faults) r.0)

  refused_ran : (due : Answer) (late : Bool) (source shelf : Type 0) (s : Status) → IsRefused due s → (s ≡ InputFault → shelf) → Ran a a due late source shelf s
  refused_ran due late source shelf NoMemory d c = lacked_none late a due.body
  refused_ran due late source shelf InputFault d c = inl (c refl, refl)
  refused_ran due late source shelf Usage d c = (sym (bytes_none a) ∙ ap (λ (x : Answer). after_bytes a x.body) (sym d), ap (λ (x : Answer). x.status) (sym d))
  refused_ran due late source shelf (BadSession line what) d c = (sym (bytes_none a) ∙ ap (λ (x : Answer). after_bytes a x.body) (sym d), ap (λ (x : Answer). x.status) (sym d))
  refused_ran due late source shelf (BadLine text line) d c = (sym (bytes_none a) ∙ ap (λ (x : Answer). after_bytes a x.body) (sym d), ap (λ (x : Answer). x.status) (sym d))
  refused_ran due late source shelf (BadLog log at why) d c = (sym (bytes_none a) ∙ ap (λ (x : Answer). after_bytes a x.body) (sym d), ap (λ (x : Answer). x.status) (sym d))
  refused_ran due late source shelf (BadSeal file at) d c = (sym (bytes_none a) ∙ ap (λ (x : Answer). after_bytes a x.body) (sym d), ap (λ (x : Answer). x.status) (sym d))
  refused_ran due late source shelf s d c = absurd d

  refused_counts : (due : Answer) (s : Status) → IsRefused due s → h'.faults ≡ faults_behind (is_input_fault s) h.faults → CountsFaults (with_files rest a h) (with_files rest a h') s
  refused_counts due NoMemory d e = (record { source = refl; files = e }, refl)
  refused_counts due InputFault d e = (inr (refl, e), refl)
  refused_counts due Usage d e = (record { source = refl; files = e }, refl)
  refused_counts due (BadSession line what) d e = (record { source = refl; files = e }, refl)
  refused_counts due (BadLine text line) d e = (record { source = refl; files = e }, refl)
  refused_counts due (BadLog log at why) d e = (record { source = refl; files = e }, refl)
  refused_counts due (BadSeal file at) d e = (record { source = refl; files = e }, refl)
  refused_counts due s d e = absurd d

module _ (law : Law) (holds : Holds law) (memory : law.memory ≡ true) (rest : Outside) (a : SinkState) (h h' : ShelfState) (calls : Calls) (files : ReadsFor law h h' calls) where
  -- the answer is told
  pub told_works : (b : SinkState) (s : Status) → h'.faults ≡ h.faults → ((contents : Contents) (input : Input) → AreContents contents calls → Ran a b (law.answer contents input) law.late ⊥ ⊥ s) →
      law.through s rest.input.ended → Works law (with_files rest a h) (with_files rest b h') s
  told_works b s f ran over =
      let some : Contents = some_contents calls in
      let none : Input = input_of AtEnd [] in
      works law holds (with_files rest a h) (with_files rest b h') s (record {
        calls = calls;
        read = h';
        files = files;
        asked = holds.unasked h';
        input = record { same = refl; grows = grows_none rest.input.seen };
        text = λ contents behind m. inl (record { station = refl; post = refl; chance = refl }, ran_weaker a b (law.answer contents _) law.late _ _ s (ran contents _ m.given));
        memory = where_no_memory s (law.memory ≡ true) memory;
        faults = ran_counts rest a b h h' (law.answer some none) law.late s f (ran some none (contents_fit law h h' calls files));
        untouched = record { over = λ contents behind m over. refl; no_memory = where_no_memory s (law.first ≡ true → rest.input ≡ rest.input) (λ e. refl) };
        over = over;
      })

  -- the answer is one that is due for all contents
  pub told_so : (b : SinkState) (due : Answer) (s : Status) → ((contents : Contents) (input : Input) → AreContents contents calls → law.answer contents input ≡ due) →
      h'.faults ≡ h.faults → Ran a b due law.late ⊥ ⊥ s → law.through s rest.input.ended → Works law (with_files rest a h) (with_files rest b h') s
  told_so b due s is f r over = told_works b s f (λ contents input given. subst (λ (d : Answer). Ran a b d law.late ⊥ ⊥ s) (sym (is contents input given)) r) over

  -- the run is refused
  pub refused_works : (s : Status) → ((contents : Contents) (input : Input) → AreContents contents calls → IsRefused (law.answer contents input) s) →
      h'.faults ≡ faults_behind (is_input_fault s) h.faults → ((due : Answer) → IsRefused due s → law.through s rest.input.ended) → Works law (with_files rest a h) (with_files rest a h') s
  refused_works s is f over =
      let some : IsRefused (law.answer (some_contents calls) (input_of AtEnd [])) s = is (some_contents calls) (input_of AtEnd []) (contents_fit law h h' calls files) in
      works law holds (with_files rest a h) (with_files rest a h') s (record {
        calls = calls;
        read = h';
        files = files;
        asked = holds.unasked h';
        input = record { same = refl; grows = grows_none rest.input.seen };
        text = λ contents behind m. inl (record { station = refl; post = refl; chance = refl }, refused_ran rest a a h h' _ law.late _ _ s (is contents _ m.given) (λ e. (f ∙ ap (λ x. faults_behind x h.faults) (ap is_input_fault e), refl)));
        memory = where_no_memory s (law.memory ≡ true) memory;
        faults = refused_counts rest a a h h' _ s some f;
        untouched = record { over = λ contents behind m over. refl; no_memory = where_no_memory s (law.first ≡ true → rest.input ≡ rest.input) (λ e. refl) };
        over = over _ some;
      })
