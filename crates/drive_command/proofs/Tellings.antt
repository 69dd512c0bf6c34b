-- Tellings: the answer to a script tells the log behind it.
use Rattle.std.proofs.Common.{Bool, List, None, Option, Some, false, true, [], ap, append-nil, append_assoc, arith, drop, flat_map, inr, inl, length, refl, subst, suc, sym, zero, ℕ, ◌+◌, ◌*◌, ◌++◌, ◌∙◌, ◌∷◌, ◌≡◌, ◌⊎◌}
use Rattle.std.specs.Prelude.{if◌then◌else◌, slice_get}
use Rattle.definitions.specs.declared.frames.TurnFrame.{TurnFrame}
use Rattle.definitions.specs.declared.findings.Finding.{Finding}
use Rattle.definitions.specs.declared.answers.OwnFault.{OwnFault}
use Rattle.definitions.specs.declared.answers.OwnFault.TheVariants.{Illegal, NotNow}
use Rattle.definitions.specs.declared.world.Move.{Move}
use Rattle.definitions.specs.declared.openings.Nonce.{Nonce}
use Rattle.definitions.specs.declared.logs.Entry.{Entry}
use Rattle.definitions.specs.declared.logs.Entry.TheVariants.{Chose, Made, Got}
use Rattle.definitions.specs.World.{Game}
use Rattle.definitions.specs.Logs.{chosen}
use Rattle.definitions.specs.Needs.{choice_fault}
use Rattle.definitions.specs.Advance.{advance, advance_by, next_made, with_made}
use Rattle.definitions.specs.Findings.{findings, is_clean}
use Rattle.definitions.specs.Answers.{got_answer, place_of}
use Rattle.definitions.specs.Steps.{after_choice, after_got, is_taken_in}
use Rattle.run_frame.specs.declared.statuses.Status.TheVariants.{Caught}
use Rattle.std.proofs.lemmas.List.{drop_all}
use Rattle.std.proofs.Math.Seq.{drop-append_seam}
use Rattle.drive_command.proofs.Choices.{Extends, extends_advance, extends_by}
use Rattle.run_frame.specs.Frame.{Answer, answer_by}
use Rattle.line_io.specs.Inputs.{End, Fault, Input, Line, lines_in}
use Rattle.wire_frames.specs.declared.frames.Frame.{Frame}
use Rattle.wire_frames.specs.declared.frames.Frame.TheVariants.{Hello, Turn, Want}
use Rattle.wire_frames.specs.Reading.{Reading}
use Rattle.wire_frames.specs.Streams.{given_of}
use Rattle.drive_command.specs.declared.grammar.DriveLine.{DriveLine}
use Rattle.drive_command.specs.declared.grammar.DriveLine.TheVariants as D
use Rattle.drive_command.specs.Grammar.{is_bad}
use Rattle.drive_command.specs.Driven.{State, fresh_state, reader_of}
use Rattle.drive_command.specs.Coming.{bad_byte_text, bytes_state, bytes_text, coming_text, log_behind_frame, log_on, log_through, received_text, text_on, text_through}
use Rattle.drive_command.specs.Drive.{drive, drive_from, drive_log, going_on, log_by, log_from, said_behind, start_text, state_behind, text_behind}
use Rattle.report_lines.specs.Lines.{added_text, bad_text, choice_text, entry_report, found_text, got_text, made_text}
use Rattle.peer_core.proofs.Answering.{logged_is}
use Rattle.peer_core.proofs.Stepped.{choice_taken, choice_refused}
use Rattle.drive_command.specs.Report.{end_text}
use Rattle.drive_command.specs.Telling.{Chooses, Finds, Greets, IsTold, Makes, Prints, Receives, Refuses, Scores, Spoils, TellsLog, Telling, Wants, added_by, telling_text, told_text}

-- nothing is told of no entries
none_added : (h : List Entry) → added_text (length h) h ≡ []
unfolding added_text
none_added h = ap (λ (g : List Entry). flat_map entry_report g) (drop_all (length h) h (omega arith))

-- an entry behind a log, and those behind it
entry_added : (h : List Entry) (e : Entry) (es : List Entry) → added_text (length h) ((h ++ e ∷ []) ++ es) ≡ entry_report e ++ added_text (length (h ++ e ∷ [])) ((h ++ e ∷ []) ++ es)
unfolding added_text
entry_added h e es =
    ap (λ (g : List Entry). flat_map entry_report (drop (length h) g)) (append_assoc h (e ∷ []) es) ∙ ap (λ (g : List Entry). flat_map entry_report g) (drop-append_seam h (e ∷ es)) ∙
    ap (λ (g : List Entry). entry_report e ++ flat_map entry_report g) (sym (drop-append_seam (h ++ e ∷ []) es))

-- the same where the entries behind it are known as a longer log
longer_added : (h : List Entry) (e : Entry) (g : List Entry) → Extends (h ++ e ∷ []) g → added_text (length h) g ≡ entry_report e ++ added_text (length (h ++ e ∷ [])) g
longer_added h e g x =
    subst (λ (k : List Entry). added_text (length h) k ≡ entry_report e ++ added_text (length (h ++ e ∷ [])) k) (sym x.1) (entry_added h e x.0)

-- of a refused choice the turn isn't told
refused_text : (turn : ℕ) (fault : OwnFault) → choice_text turn (Some fault) ≡ choice_text 0 (Some fault)
unfolding choice_text
refused_text turn NotNow = refl
refused_text turn (Illegal f) = refl

module _ (game : Game) (me : ℕ) where
  -- nothing more is told
  tells_none : (h : List Entry) (body : List ℕ) → (body ≡ []) ⊎ (body ≡ end_text game me h) → TellsLog game me h h body
  tells_none h body last = record { tellings = []; last = body; body_is = refl; told = tt; log_is = sym (append-nil h); last_is = last }

  -- this is told first
  tells_first : (first log : List Entry) (body : List ℕ) (t : Telling) → IsTold game me first t → TellsLog game me (first ++ added_by t) log body →
      TellsLog game me first log (telling_text game me first t ++ body)
  tells_first first log body t told u = record {
    tellings = t ∷ u.tellings;
    last = u.last;
    body_is = ap (λ x. telling_text game me first t ++ x) u.body_is ∙ sym (append_assoc (telling_text game me first t) (told_text game me (first ++ added_by t) u.tellings) u.last);
    told = (told, u.told);
    log_is = u.log_is ∙ append_assoc first (added_by t) (flat_map added_by u.tellings);
    last_is = u.last_is;
  }

  -- this is told first, and adds nothing
  tells_aside : (first log : List Entry) (body : List ℕ) (t : Telling) → added_by t ≡ [] → IsTold game me first t → TellsLog game me first log body →
      TellsLog game me first log (telling_text game me first t ++ body)
  tells_aside first log body t none told u =
      tells_first first log body t told (subst (λ (h : List Entry). TellsLog game me h log body) (sym (ap (λ (es : List Entry). first ++ es) none ∙ append-nil first)) u)

  -- nothing was added
  tells_same : (h log : List Entry) (body : List ℕ) → TellsLog game me h log body → TellsLog game me h log (added_text (length h) h ++ body)
  tells_same h log body t = subst (λ (x : List ℕ). TellsLog game me h log (x ++ body)) (sym (none_added h)) t

  -- what the owner makes by itself is told first
  tells_made : (n : ℕ) (h log : List Entry) (body : List ℕ) → TellsLog game me (advance_by game me n h) log body → TellsLog game me h log (added_text (length h) (advance_by game me n h) ++ body)
  unfolding advance_by
  tells_made zero h log body t = tells_same h log body t
  tells_made (suc n) h log body t = go (next_made game me h) refl (λ g u. tells_made n g log body u) t
    where
      go : (o : Option TurnFrame) → next_made game me h ≡ o →
          ((g : List Entry) → TellsLog game me (advance_by game me n g) log body → TellsLog game me g log (added_text (length g) (advance_by game me n g) ++ body)) →
          TellsLog game me (advance_by game me n (with_made h o)) log body → TellsLog game me h log (added_text (length h) (advance_by game me n (with_made h o)) ++ body)
      go None e ih t = ih h t
      go (Some f) e ih t =
          let g = h ++ Made f ∷ [] in
          let rest = added_text (length g) (advance_by game me n g) in
          subst (λ (x : List ℕ). TellsLog game me h log (x ++ body)) (sym (longer_added h (Made f) (advance_by game me n g) (extends_by game me n g)))
          (subst (λ (x : List ℕ). TellsLog game me h log x) (sym (append_assoc (made_text f) rest body)) (tells_first h log (rest ++ body) (Makes f) e (ih g t)))

  tells_advance : (h log : List Entry) (body : List ℕ) → TellsLog game me (advance game me h) log body → TellsLog game me h log (added_text (length h) (advance game me h) ++ body)
  unfolding advance
  tells_advance h log body t = tells_made (2 * game.turns) h log body t

  -- an entry that isn't told by itself, and what the owner makes behind it
  tells_behind : (h : List Entry) (e : Entry) (log : List Entry) (body : List ℕ) → entry_report e ≡ [] → TellsLog game me (advance game me (h ++ e ∷ [])) log body →
      TellsLog game me (h ++ e ∷ []) log (added_text (length h) (advance game me (h ++ e ∷ [])) ++ body)
  tells_behind h e log body none t =
      let g = h ++ e ∷ [] in
      let same : added_text (length h) (advance game me g) ≡ added_text (length g) (advance game me g) =
      longer_added h e (advance game me g) (extends_advance game me g) ∙ ap (λ (x : List ℕ). x ++ added_text (length g) (advance game me g)) none in
      subst (λ (x : List ℕ). TellsLog game me g log (x ++ body)) (sym same) (tells_advance g log body t)

  -- the finding of a log is told first
  tells_found : (h log : List Entry) (body : List ℕ) (o : Option Finding) → slice_get (findings game (h ∷ [])) 0 ≡ o → TellsLog game me h log body → TellsLog game me h log (found_text o ++ body)
  tells_found h log body None e t = t
  tells_found h log body (Some f) e t = tells_aside h log body (Finds f) refl e t

  -- a choice
  tells_choice : (h : List Entry) (mv : Move) (nonce : Nonce) (log : List Entry) (body : List ℕ) → TellsLog game me (after_choice game me h mv nonce) log body →
      TellsLog game me h log ((choice_text (length (chosen me h)) (choice_fault game me h mv) ++ added_text (length h) (after_choice game me h mv nonce)) ++ body)
  tells_choice h mv nonce log body t =
      let turn = length (chosen me h) in
      subst (λ (x : List ℕ). TellsLog game me h log x) (sym (append_assoc (choice_text turn (choice_fault game me h mv)) (added_text (length h) (after_choice game me h mv nonce)) body))
      (go (choice_fault game me h mv) (after_choice game me h mv nonce) refl refl t)
    where
      go : (o : Option OwnFault) (a : List Entry) → choice_fault game me h mv ≡ o → a ≡ after_choice game me h mv nonce → TellsLog game me a log body →
          TellsLog game me h log (choice_text (length (chosen me h)) o ++ (added_text (length h) a ++ body))
      go None a e is t =
          let turn = length (chosen me h) in
          let g = h ++ Chose turn mv nonce ∷ [] in
          let taken : a ≡ advance game me g = is ∙ choice_taken game me h mv nonce e in
          subst (λ (k : List Entry). TellsLog game me h log (choice_text turn None ++ (added_text (length h) k ++ body))) (sym taken)
          (tells_first h log (added_text (length h) (advance game me g) ++ body) (Chooses turn mv nonce) (refl, e)
          (tells_behind h (Chose turn mv nonce) log body refl (subst (λ (k : List Entry). TellsLog game me k log body) taken t)))
      go (Some fault) a e is t =
          let same : a ≡ h = is ∙ choice_refused game me h mv nonce fault e in
          subst (λ (k : List Entry). TellsLog game me h log (choice_text (length (chosen me h)) (Some fault) ++ (added_text (length h) k ++ body))) (sym same)
          (subst (λ (x : List ℕ). TellsLog game me h log (x ++ (added_text (length h) h ++ body))) (sym (refused_text (length (chosen me h)) fault))
          (tells_aside h log (added_text (length h) h ++ body) (Refuses mv fault) refl e (tells_same h log body (subst (λ (k : List Entry). TellsLog game me k log body) same t))))

  -- a frame of a turn that came
  tells_got : (h : List Entry) (q : ℕ) (f : TurnFrame) (log : List Entry) (body : List ℕ) → TellsLog game me (after_got game me h q f) log body →
      TellsLog game me h log (received_text game me h q f ++ body)
  unfolding received_text
  tells_got h q f log body t =
      let answer = got_answer game me h q f in
      let text = got_text q (place_of game f) answer in
      subst (λ (b : List ℕ). TellsLog game me h log b) (sym (append_assoc text (added_text (length h) (after_got game me h q f)) body))
      (tells_first h log (added_text (length h) (after_got game me h q f) ++ body) (Receives q f answer) refl (by_answer (is_taken_in game me h q f) refl t))
    where
      with_entry : (b : Bool) → is_taken_in game me h q f ≡ b → h ++ (if b then Got q f ∷ [] else []) ≡ h ++ added_by (Receives q f (got_answer game me h q f))
      with_entry b e = ap (λ (c : Bool). h ++ (if c then Got q f ∷ [] else [])) (sym e ∙ sym (logged_is game me h q f))

      by_answer : (b : Bool) → is_taken_in game me h q f ≡ b → TellsLog game me (if b then advance game me (h ++ Got q f ∷ []) else h) log body →
          TellsLog game me (h ++ added_by (Receives q f (got_answer game me h q f))) log (added_text (length h) (if b then advance game me (h ++ Got q f ∷ []) else h) ++ body)
      by_answer true e t =
          let g = h ++ Got q f ∷ [] in
          subst (λ (x : List Entry). TellsLog game me x log (added_text (length h) (advance game me g) ++ body)) (with_entry true e) (tells_behind h (Got q f) log body refl t)
      by_answer false e t =
          subst (λ (x : List Entry). TellsLog game me x log (added_text (length h) h ++ body)) (with_entry false e)
          (subst (λ (x : List Entry). TellsLog game me x log (added_text (length h) h ++ body)) (sym (append-nil h)) (tells_same h log body t))

  -- any frame that came
  tells_frame : (h : List Entry) (q : ℕ) (f : Frame) (log : List Entry) (body : List ℕ) → TellsLog game me (log_behind_frame game me h q f) log body → TellsLog game me h log (coming_text game me h q f ++ body)
  tells_frame h q (Turn f) log body t = tells_got h q f log body t
  tells_frame h q (Hello id p pass next) log body t = tells_aside h log body (Greets q) refl tt t
  tells_frame h q (Want place) log body t = tells_aside h log body (Wants q place) refl tt t

  -- a bad byte, if the reader stands at one
  tells_bad : (h log : List Entry) (q : ℕ) (r : Reading) (body : List ℕ) → TellsLog game me h log body → TellsLog game me h log (bad_byte_text q r ++ body)
  tells_bad h log q r body t = go r.bad
    where
      go : (b : Bool) → TellsLog game me h log ((if b then bad_text q r.place else []) ++ body)
      go true = tells_aside h log body (Spoils q r.place) refl tt t
      go false = t

  -- frames that came one by one, and what the reader stands at: what is told behind the last log is told at the end
  tells_through : (h log : List Entry) (q : ℕ) (fs : List Frame) (r : Reading) (body : List ℕ) → TellsLog game me (log_through game me h q fs) log body →
      TellsLog game me h log (text_through game me h q fs r ++ body)
  unfolding log_through text_through
  tells_through h log q [] r body t = tells_bad h log q r body t
  tells_through h log q (f ∷ fs) r body t =
      let next = log_behind_frame game me h q f in
      subst (λ (b : List ℕ). TellsLog game me h log b) (sym (append_assoc (coming_text game me h q f) (text_on game next (text_through game me next q fs r)) body))
      (tells_frame h q f log (text_on game next (text_through game me next q fs r) ++ body) (on_clean (is_clean game next) (tells_through next log q fs r body) t))
    where
      on_clean : (b : Bool) →
          (TellsLog game me (log_through game me (log_behind_frame game me h q f) q fs) log body → TellsLog game me (log_behind_frame game me h q f) log (text_through game me (log_behind_frame game me h q f) q fs r ++ body)) →
          TellsLog game me (if b then log_through game me (log_behind_frame game me h q f) q fs else log_behind_frame game me h q f) log body →
          TellsLog game me (log_behind_frame game me h q f) log ((if b then text_through game me (log_behind_frame game me h q f) q fs r else []) ++ body)
      on_clean true ih u = ih u
      on_clean false ih u = u

  -- the answer from a log on, which ends where the log has a finding
  tells_on : (h last : List Entry) (rest : Answer) → TellsLog game me h last rest.body → TellsLog game me h (log_on game h last) (going_on game me h rest).body
  tells_on h last rest t = go (is_clean game h)
    where
      go : (b : Bool) → TellsLog game me h (if b then last else h) (if b then rest else record { body = end_text game me h; status = Caught }).body
      go true = t
      go false = tells_none h (end_text game me h) (inr refl)

  -- the answer from a line on that says this
  tells_line : (s : State) (d : DriveLine) (n : ℕ) (log : List Entry) (rest : Answer) → TellsLog game me (state_behind game me s d).log log rest.body →
      TellsLog game me s.log (log_by (is_bad d) s.log log) (answer_by (is_bad d) n (text_behind game me s d) rest).body
  unfolding state_behind text_behind bytes_state bytes_text
  tells_line s D.Bad n log rest t = tells_none s.log [] (inl refl)
  tells_line s (D.Got q f) n log rest t = tells_got s.log q f log rest.body t
  tells_line s (D.Bytes q bytes) n log rest t = tells_through s.log log q (given_of (reader_of s q) bytes).frames (given_of (reader_of s q) bytes).reader rest.body t
  tells_line s D.Log n log rest t = tells_aside s.log log rest.body Prints refl tt t
  tells_line s D.Score n log rest t = tells_aside s.log log rest.body Scores refl tt t
  tells_line s D.Nothing n log rest t = t
  tells_line s (D.Choose mv nonce) n log rest t = tells_choice s.log mv nonce log rest.body t

  tells_from : (s : State) (n : ℕ) (input : Input) → TellsLog game me s.log (log_from game me s n (lines_in input)) (drive_from game me s n input).body
  tells_from s n End = tells_none s.log (end_text game me s.log) (inr refl)
  tells_from s n Fault = tells_none s.log [] (inl refl)
  tells_from s n (Line line input) =
      let d = said_behind game n line in
      let next : State = state_behind game me s d in
      tells_line s d (n + 1) (log_on game next.log (log_from game me next (n + 1) (lines_in input))) (going_on game me next.log (drive_from game me next (n + 1) input))
      (tells_on next.log (log_from game me next (n + 1) (lines_in input)) (drive_from game me next (n + 1) input) (tells_from next (n + 1) input))

-- the answer to a script tells the log behind it
pub drive_tells : (game : Game) (me : ℕ) (first : List Entry) (input : Input) → TellsLog game me first (drive_log game me first input) (drive game me first input).body
unfolding drive drive_log start_text
drive_tells game me first input =
    let next = advance game me first in
    let found = slice_get (findings game (next ∷ [])) 0 in
    let rest = going_on game me next (drive_from game me (fresh_state next) 0 input) in
    let log = log_on game next (log_from game me (fresh_state next) 0 (lines_in input)) in
    subst (λ (b : List ℕ). TellsLog game me first log b) (sym (append_assoc (added_text (length first) next) (found_text found) rest.body))
    (tells_advance game me first log (found_text found ++ rest.body)
    (tells_found game me next log rest.body found refl (tells_on game me next (log_from game me (fresh_state next) 0 (lines_in input)) (drive_from game me (fresh_state next) 0 input) (tells_from game me (fresh_state next) 0 input))))
