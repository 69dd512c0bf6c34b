-- The frame of a command: how runs go on and end.
use Rattle.std.proofs.Common.{◌≡◌, ℕ, false, List, ◌++◌, refl, ap, sym, ◌∙◌, subst, append_assoc, arith}
use Rattle.station.specs.Since.{since}
use Rattle.station.specs.Sinks.{SinkState, after_bytes}
use Rattle.station.specs.Sources.{SourceState}
use Rattle.line_io.specs.Texts.{CutShort, Underway}
use Rattle.run_frame.specs.Frame.{Answer, Onward, Ends, after_text, is_input_fault}
use Rattle.line_io.specs.Inputs.{Input, Ending, AtEnd, AtFault, input_of}
use Rattle.run_frame.specs.Turns.{Plays, PlaysOn, input_by}
use Rattle.run_frame.specs.declared.statuses.Status.{Status}
use Rattle.run_frame.specs.declared.statuses.Status.TheVariants.{NoMemory, InputFault, OutputFault}
use Rattle.line_io.proofs.Drawing.{drew_none, drew_on, held_on, held_same}
use Rattle.line_io.proofs.Writing.{cut_longer, underway_by, underway_ends, underway_on}

-- nothing is written yet
pub onward_same : (s : SinkState) (p q : Answer) → p ≡ q → Onward s s p q
onward_same s p q e = record {
  text = record { longer = omega arith; whole = ap (λ (a : Answer). after_bytes s a.body) (sym e) };
  status = ap (λ (a : Answer). a.status) (sym e);
}

-- the text before the rest was written
pub onward_text : (a b : SinkState) (t : List ℕ) (p q : Answer) → p ≡ after_text t q → b ≡ after_bytes a t → Onward a b p q
onward_text a b t p q e w = record {
  text = subst (λ (r : Answer). Underway a b r.body q.body) (sym e) (underway_by a b t q.body w);
  status = ap (λ (r : Answer). r.status) (sym e);
}

-- the sink failed in the text before the rest
pub cut_text : (a b : SinkState) (t : List ℕ) (p q : Answer) → p ≡ after_text t q → CutShort a b t → CutShort a b p.body
cut_text a b t p q e c = subst (λ (r : Answer). CutShort a b r.body) (sym e) (cut_longer a b t q.body c)

-- one stretch behind another
pub onward_on : (a b c : SinkState) (p q r : Answer) → Onward a b p q → Onward b c q r → Onward a c p r
onward_on a b c p q r u v = record { text = underway_on a b c p.body q.body r.body u.text v.text; status = v.status ∙ u.status }

-- the run ended in the last stretch
pub onward_ends : (a b c : SinkState) (p q : Answer) (s : Status) → Onward a b p q → Ends b c q s → Ends a c p s
onward_ends a b c p q NoMemory u e = e
onward_ends a b c p q OutputFault u e = underway_ends a b c p.body q.body u.text e
onward_ends a b c p q s u e = (e.0 ∙ u.text.whole, e.1 ∙ u.status)

-- A loop that reads: nothing was read yet.
pub plays_none : (source : SourceState) (sink : SinkState) (due : Input → Answer) (held : List ℕ) → PlaysOn source source sink sink due due held held
plays_none source sink due held = record {
  drew = drew_none source;
  onward = λ ending behind. onward_same sink _ _ (ap (λ r. due (input_of ending (r ++ behind))) (held_same held source.seen));
}

-- what is due by bytes that were held and read in two stretches
module _ (due : Input → Answer) (x read more all behind : List ℕ) (is : all ≡ (x ++ read) ++ more) where
  due_on : (ending : Ending) → due (input_of ending (all ++ behind)) ≡ due (input_of ending ((x ++ read) ++ (more ++ behind)))
  due_on ending = ap (λ r. due (input_of ending (r ++ behind))) is ∙ ap (λ r. due (input_of ending r)) (append_assoc (x ++ read) more behind)

-- one stretch behind another
pub plays_on : (i j k : SourceState) (a b c : SinkState) (due mid rest : Input → Answer) (x y z : List ℕ) → PlaysOn i j a b due mid x y → PlaysOn j k b c mid rest y z → PlaysOn i k a c due rest x z
plays_on i j k a b c due mid rest x y z u v = record {
  drew = drew_on i j k false u.drew v.drew;
  onward = λ ending behind.
      let read = since i.seen j.seen in
      let more = since j.seen k.seen in
      let is = held_on x i.seen j.seen k.seen u.drew.grows v.drew.grows in
      subst (λ (p : Answer). Onward a c p (rest (input_of ending (z ++ behind)))) (sym (due_on due x read more (x ++ since i.seen k.seen) behind is ending))
      (onward_on a b c _ _ _ (subst (λ (q : Answer). Onward a b (due (input_of ending ((x ++ read) ++ (more ++ behind)))) q) (ap (λ r. mid (input_of ending r)) (sym (append_assoc y more behind))) (u.onward ending (more ++ behind)))
      (v.onward ending behind));
}

ends_on : (due mid : Input → Answer) (a b c : SinkState) (x y read more all behind : List ℕ) (s : Status) → all ≡ (x ++ read) ++ more →
    ((ending : Ending) (rest : List ℕ) → Onward a b (due (input_of ending ((x ++ read) ++ rest))) (mid (input_of ending (y ++ rest)))) →
    Ends b c (mid (input_by s (y ++ more) behind)) s → Ends a c (due (input_by s all behind)) s
ends_on due mid a b c x y read more all behind InputFault is u e =
    onward_ends a b c (due (input_of AtFault all)) (mid (input_of AtFault (y ++ more))) InputFault
    (subst (λ r. Onward a b (due (input_of AtFault r)) (mid (input_of AtFault (y ++ more)))) (sym is) (u AtFault more)) e
ends_on due mid a b c x y read more all behind s is u e =
    onward_ends a b c (due (input_of AtEnd (all ++ behind))) (mid (input_of AtEnd ((y ++ more) ++ behind))) s
    (subst (λ (p : Answer). Onward a b p (mid (input_of AtEnd ((y ++ more) ++ behind)))) (sym (due_on due x read more all behind is AtEnd))
    (subst (λ r. Onward a b (due (input_of AtEnd ((x ++ read) ++ (more ++ behind)))) (mid (input_of AtEnd r))) (sym (append_assoc y more behind)) (u AtEnd (more ++ behind)))) e

-- the loop ended in the last stretch
pub plays_ends : (i j k : SourceState) (a b c : SinkState) (due mid : Input → Answer) (x y : List ℕ) (s : Status) → PlaysOn i j a b due mid x y → Plays j k b c mid y s → Plays i k a c due x s
plays_ends i j k a b c due mid x y s u v = record {
  drew = drew_on i j k (is_input_fault s) u.drew v.drew;
  ends = λ behind m.
      ends_on due mid a b c x y (since i.seen j.seen) (since j.seen k.seen) (x ++ since i.seen k.seen) behind s (held_on x i.seen j.seen k.seen u.drew.grows v.drew.grows) u.onward (v.ends behind m);
  over = v.over;
}

-- the loop began behind a text, or the sink failed in the text
pub plays_behind : (i j : SourceState) (a b c : SinkState) (t : List ℕ) (due : Input → Answer) (held : List ℕ) (s : Status) → b ≡ after_bytes a t → Plays i j b c due held s →
    Plays i j a c (λ input. after_text t (due input)) held s
plays_behind i j a b c t due held s e v = record {
  drew = v.drew;
  ends = λ behind m.
      let rest = due (input_by s (held ++ since i.seen j.seen) behind) in
      onward_ends a b c (after_text t rest) rest s (onward_text a b t (after_text t rest) rest refl e) (v.ends behind m);
  over = v.over;
}

pub plays_cut : (i : SourceState) (a b : SinkState) (t : List ℕ) (due : Input → Answer) (held : List ℕ) → CutShort a b t → Plays i i a b (λ input. after_text t (due input)) held OutputFault
plays_cut i a b t due held c = record { drew = drew_none i; ends = λ behind m. cut_longer a b t (due (input_by OutputFault (held ++ since i.seen i.seen) behind)).body c; over = tt }
