-- Opened: the files of the command are read one after the other.
use Rattle.std.proofs.Common.{◌≡◌, ℕ, true, false, List, ◌∷◌, length, ap, sym, refl, subst}
use Rattle.std.specs.Prelude.{Result, Ok, Err}
use Rattle.definitions.specs.World.{Game}
use Rattle.station.specs.Shelves.{ShelfState}
use Rattle.station.specs.Sinks.{SinkState}
use Rattle.line_io.specs.Files.{Contents, behind_first, content}
use Rattle.accuser.specs.Accused.{Accuses}
use Rattle.accuser.specs.Opened.{IsAccusation, ReadsSealed, bytes_of, is_shelf_failed}
use Rattle.accuser.specs.SealedReports.{SealedReported}
use Rattle.accuser.specs.declared.opened.FilesFault.{FilesFault}
use Rattle.accuser.specs.declared.opened.FilesFault.TheVariants as fault
use Rattle.file_commands.specs.SealedCases.{roots_in}
use Rattle.run_frame.specs.Frame.{Ran, is_input_fault}
use Rattle.run_frame.specs.Opening.{IsDueFor, Opens, Reads}
use Rattle.run_frame.specs.Sessions.{IsDue, OpensSession, is_shelf_fault, session_in}
use Rattle.run_frame.specs.declared.statuses.Status.{Status}
use Rattle.run_frame.proofs.Opening.{reads_first, reads_then, refused_on, session_refused}
use Rattle.run_frame.proofs.Working.{readings_fit, some_contents}
use Rattle.accuse_command.specs.declared.opening.Accusation.{Accusation as AccusationHeld}
use Rattle.accuse_command.specs.Accuse.{IsOnFiles, accuse_answer, accused_answer}
use Rattle.accuse_command.specs.AccuseWords.{Accusing}
use Rattle.accuse_command.specs.Due.{IsAccused, IsAccusedDue, IsReportDue, OpensAccusation, ReadsAfterSession, ReadsReport, status_of_files}
use Rattle.accuse_command.specs.Opened.{Accusation, MayReadEach, MayReadRoots, MayReadSealed, accusation_for, after_roots, after_session, roots_then, unless_bad, with_files}

-- ---- the files of sealed frames

module _ (game : Game) (roots : List (List ℕ)) (s t : ShelfState) (names : List (List ℕ)) where
  pub report_read : (r : SealedReported) → ReadsSealed game roots s t names 0 false (λ files. IsAccusation game roots files (Ok r)) → ReadsReport game roots s t names (Ok r)
  report_read r w = record { calls = w.calls; reads = w.reads; counted = w.counted; ready = w.due; due = w.answer }

  pub no_report_read : (f : FilesFault) → ReadsSealed game roots s t names 0 (is_shelf_failed {T = SealedReported} (Err f)) (λ files. IsAccusation game roots files (Err f)) → ReadsReport game roots s t names (Err (status_of_files f))
  no_report_read (fault.BadSeal file at) w = record {
    calls = w.calls;
    reads = w.reads;
    counted = w.counted;
    ready = w.due;
    due = λ contents h. ap (unless_bad game roots (bytes_of contents (length names))) (w.answer contents h);
  }
  no_report_read fault.Failed w = record { calls = w.calls; reads = w.reads; counted = w.counted; ready = w.due; due = λ contents h. tt }
  no_report_read fault.Memory w = record { calls = w.calls; reads = w.reads; counted = w.counted; ready = w.due; due = λ contents h. tt }

-- ---- the roots, and then these

module _ (a : Accusing) (game : Game) (s t : ShelfState) where
  pub no_roots : (status : Status) → Opens s t a.roots (is_input_fault status) (λ content. IsDueFor (roots_in game content) (Err status)) → ReadsAfterSession a game s t (Err status)
  no_roots status o =
      reads_first s t a.roots a.files _ (MayReadRoots game) (λ contents. IsAccusedDue (roots_then game contents (length a.files)) (Err status)) _ o
      (λ contents. tt)
      (λ contents h. refused_on (λ r. after_roots game r (bytes_of (behind_first contents) (length a.files))) (λ e. refl) (roots_in game (content contents 0)) status h)

  module _ (u : ShelfState) (roots : List (List ℕ)) (o : Opens s t a.roots false (λ content. roots_in game content ≡ Ok roots)) where
    files_read : (held : Result AccusationHeld Status) (Q : List (List ℕ) → Type 0) → Reads t u a.files (is_shelf_fault held) (MayReadSealed game roots) (λ contents. Q (bytes_of contents (length a.files))) →
        ((files : List (List ℕ)) → Q files → IsAccusedDue (with_files game roots files) held) → ReadsAfterSession a game s u held
    files_read held Q r due =
        reads_then s t a.roots a.files _ (MayReadRoots game) (λ contents. IsAccusedDue (roots_then game contents (length a.files)) held) u (is_shelf_fault held)
        (MayReadSealed game roots) (λ contents. Q (bytes_of contents (length a.files))) o r
        (λ contents. tt) (λ contents h n w. (roots, h, w))
        (λ contents h q. subst (λ (x : Result (List (List ℕ)) Status). IsAccusedDue (after_roots game x (bytes_of (behind_first contents) (length a.files))) held) (sym h) (due _ q))

    pub no_report : (status : Status) → ReadsReport game roots t u a.files (Err status) → ReadsAfterSession a game s u (Err status)
    no_report status r = files_read (Err status) (λ files. IsReportDue game roots files (Err status)) r (λ files h. h)

    pub a_report : (r : SealedReported) → ReadsReport game roots t u a.files (Ok r) → ReadsAfterSession a game s u (Ok (record { session = game; roots = roots; report = r }))
    a_report r w =
        let held : AccusationHeld = record { session = game; roots = roots; report = r } in
        files_read (Ok held) (λ files. IsReportDue game roots files (Ok r)) w (λ files h. record { files = files; due_is = ap (unless_bad game roots files) h.sound; accuses = h })

-- ---- the session, and then the rest

module _ (a : Accusing) (s t : ShelfState) where
  pub no_session : (status : Status) → OpensSession s t a.session (Err status) → OpensAccusation a s t (Err status)
  no_session status o =
      reads_first s t a.session (a.roots ∷ a.files) (λ content. IsDue (session_in content) (Err status)) MayReadEach (λ contents. IsAccusedDue (accusation_for contents (length a.files)) (Err status)) _
      (record { fetched = o.fetched; due = o.due })
      (λ contents. tt)
      (λ contents h. refused_on (λ g. after_session g (behind_first contents) (length a.files)) (λ e. refl) (session_in (content contents 0)) status (session_refused _ status h))

  pub a_session : (u : ShelfState) (game : Game) (held : Result AccusationHeld Status) → OpensSession s t a.session (Ok game) → ReadsAfterSession a game t u held → OpensAccusation a s u held
  a_session u game held o rest =
      reads_then s t a.session (a.roots ∷ a.files) (λ content. session_in content ≡ Ok game) MayReadEach (λ contents. IsAccusedDue (accusation_for contents (length a.files)) held) u (is_shelf_fault held)
      (MayReadRoots game) (λ contents. IsAccusedDue (roots_then game contents (length a.files)) held) (record { fetched = o.fetched; due = o.due }) rest
      (λ contents. tt) (λ contents h n w. (game, h, w))
      (λ contents h due. subst (λ (g : Result Game Status). IsAccusedDue (after_session g (behind_first contents) (length a.files)) held) (sym h) due)

-- what was read accuses by some files
pub on_files : (a : Accusing) (s t : ShelfState) (held : AccusationHeld) → OpensAccusation a s t (Ok held) → IsOnFiles held.report
on_files a s t held o =
    let contents : Contents = some_contents o.calls in
    let is : IsAccused (accusation_for contents (length a.files)) held = o.due contents (readings_fit s.files (a.session ∷ a.roots ∷ a.files) o.calls o.reads.readings) in
    record { game = held.session; roots = held.roots; files = is.files; accuses = is.accuses }

-- what is printed of the report is what is due
pub accused_told : (before now : SinkState) (due : Result Accusation Status) (held : AccusationHeld) (s : Status) → IsAccused due held →
    ((game : Game) (roots files : List (List ℕ)) → Accuses game roots files held.report → Ran before now (accused_answer game roots files) true ⊥ ⊥ s) →
    Ran before now (accuse_answer due) true ⊥ ⊥ s
accused_told before now due held s is ran =
    subst (λ (d : Result Accusation Status). Ran before now (accuse_answer d) true ⊥ ⊥ s) (sym is.due_is) (ran held.session held.roots is.files is.accuses)
