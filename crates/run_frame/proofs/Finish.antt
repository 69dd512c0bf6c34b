-- What a run has written once its last line was written, or the sink failed in it.
use Rattle.std.proofs.Common.{◌≡◌, inl, inr, ℕ, Bool, false, true, List, [], ◌++◌, refl, ap, sym, ◌∙◌, subst, arith}
use Rattle.station.specs.Sinks.{SinkState, after_bytes}
use Rattle.line_io.specs.Texts.{CutShort}
use Rattle.run_frame.specs.Frame.{Answer, Lacked, MayBeFront, Ran}
use Rattle.line_io.specs.Inputs.{Input, AtEnd, AtFault, input_of}
use Rattle.run_frame.specs.Turns.{input_by}
use Rattle.run_frame.specs.Statuses.{refusal_of}
use Rattle.run_frame.specs.Ends.{Refuses, told_by, IsToBeWritten, Finished}
use Rattle.run_frame.specs.declared.statuses.Status.{Status}
use Rattle.run_frame.specs.declared.statuses.Status.TheVariants.{NoMemory, InputFault, OutputFault}
use Rattle.line_io.proofs.Writing.{bytes_both, bytes_none, cut_behind, cut_longer}

-- The same run before its last line and behind it: `status` is that of the run, `result` the one behind the line.
module _ (before mid now : SinkState) (whole cut : Answer) (late : Bool) (source shelf : Type 0) (result : Status) where
  failed : result ≡ OutputFault → (text : List ℕ) → IsToBeWritten whole cut late source shelf text → CutShort before now text → Finished before now whole cut late source shelf result
  failed e text w b = let F : Status → Type 0 = λ s. Finished before now whole cut late source shelf s in subst F (sym e) (text, w, b)

  -- an answer that is due was written, and then its line
  answered : (due : Answer) (status : Status) → mid ≡ after_bytes before due.body → status ≡ due.status →
      (now ≡ after_bytes before (told_by due) → Finished before now whole cut late source shelf status) → IsToBeWritten whole cut late source shelf (told_by due) →
      Refuses mid now status result → Finished before now whole cut late source shelf result
  answered due status m d make w (inl h) =
      let F : Status → Type 0 = λ s. Finished before now whole cut late source shelf s in
      subst F (sym h.0)
      (make (h.1 ∙ ap (λ s. after_bytes mid (refusal_of s)) d ∙ ap (λ (s : SinkState). after_bytes s (refusal_of due.status)) m ∙ bytes_both before due.body (refusal_of due.status)))
  answered due status m d make w (inr h) =
      failed h.0 (told_by due) w
      (cut_behind before mid now due.body (refusal_of due.status) m (let B : Status → Type 0 = λ s. CutShort mid now (refusal_of s) in subst B d h.1))

  -- nothing was written but the line
  bare : (status : Status) → mid ≡ before → (now ≡ after_bytes before (refusal_of status) → Finished before now whole cut late source shelf status) →
      IsToBeWritten whole cut late source shelf (refusal_of status) → Refuses mid now status result → Finished before now whole cut late source shelf result
  bare status m make w (inl h) =
      let F : Status → Type 0 = λ s. Finished before now whole cut late source shelf s in
      subst F (sym h.0) (make (h.1 ∙ ap (λ (s : SinkState). after_bytes s (refusal_of status)) m))
  bare status m make w (inr h) = failed h.0 (refusal_of status) w (let F : SinkState → Type 0 = λ s. CutShort s now (refusal_of status) in subst F m h.1)

  -- memory was wanting behind this front of what is due
  lacked : (front : List ℕ) → MayBeFront late whole.body front → mid ≡ after_bytes before front → Refuses mid now NoMemory result → Finished before now whole cut late source shelf result
  lacked front m e (inl h) =
      let F : Status → Type 0 = λ s. Finished before now whole cut late source shelf s in
      subst F (sym h.0) (front, m, h.1 ∙ ap (λ (s : SinkState). after_bytes s (refusal_of NoMemory)) e ∙ bytes_both before front (refusal_of NoMemory))
  lacked front m e (inr h) = failed h.0 (front ++ refusal_of NoMemory) (inr (inr (inl (front, m, refl)))) (cut_behind before mid now front (refusal_of NoMemory) e h.1)

  lacked_so : (b : Bool) → late ≡ b → Lacked b before mid whole.body → Refuses mid now NoMemory result → Finished before now whole cut late source shelf result
  lacked_so false e l r = lacked [] (subst (λ (b : Bool). MayBeFront b whole.body []) (sym e) refl) (l ∙ sym (bytes_none before)) r
  lacked_so true e l r = lacked l.0 (subst (λ (b : Bool). MayBeFront b whole.body l.0) (sym e) l.1) l.2 r

  -- the sink had failed before
  unwritten : CutShort before mid whole.body → Refuses mid now OutputFault result → Finished before now whole cut late source shelf result
  unwritten b (inl h) =
      failed h.0 (told_by whole) (inl refl)
      (cut_longer before now whole.body (refusal_of whole.status) (let F : SinkState → Type 0 = λ s. CutShort before s whole.body in subst F (sym (h.1 ∙ bytes_none mid)) b))
  unwritten b (inr h) = absurd (omega (arith, h.1.between.longer, h.1.between.shorter))

-- A command that ran, and then the line of its status: this is all that a run has written.
module _ (before mid now : SinkState) (read rest : List ℕ) (f : Input → Answer) (late : Bool) (source shelf : Type 0) (result : Status) where
  pub finished : (status : Status) → Ran before mid (f (input_by status read rest)) late source shelf status → Refuses mid now status result →
      Finished before now (f (input_of AtEnd (read ++ rest))) (f (input_of AtFault read)) late source shelf result
  finished NoMemory ran end = lacked_so before mid now (f (input_of AtEnd (read ++ rest))) (f (input_of AtFault read)) late source shelf result late refl ran end
  finished InputFault (inl ran) end =
      bare before mid now (f (input_of AtEnd (read ++ rest))) (f (input_of AtFault read)) late source shelf result InputFault ran.1 (λ k. inl (ran.0, k)) (inr (inr (inr (ran.0, refl)))) end
  finished InputFault (inr ran) end =
      answered before mid now (f (input_of AtEnd (read ++ rest))) (f (input_of AtFault read)) late source shelf result (f (input_of AtFault read)) InputFault ran.2 ran.1
      (λ k. inr (ran.0, sym ran.1, k)) (inr (inl (ran.0, sym ran.1, refl))) end
  finished OutputFault ran end = unwritten before mid now (f (input_of AtEnd (read ++ rest))) (f (input_of AtFault read)) late source shelf result ran end
  finished s ran end =
      answered before mid now (f (input_of AtEnd (read ++ rest))) (f (input_of AtFault read)) late source shelf result (f (input_of AtEnd (read ++ rest))) s ran.0 ran.1
      (λ k. (ran.1, k)) (inl refl) end
