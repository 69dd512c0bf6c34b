-- AccuseHolds: the law of the command: each status has its cause, what is good comes to its end,
-- and what is behind its text.
use Rattle.std.proofs.Common.{◌≡◌, inl, ℕ, List, [], ◌∷◌, None, Option, Some, length, refl, ap, sym, subst, ◌∙◌}
use Rattle.std.specs.Prelude.{Err, Ok, Result}
use Rattle.definitions.specs.declared.findings.Finding.{Finding}
use Rattle.definitions.specs.Lists.{is_empty}
use Rattle.definitions.specs.World.{Game, players_of}
use Rattle.grid_world.specs.declared.fault.SessionFault.{SessionFault}
use Rattle.grid_world.specs.declared.fault.SessionFault.TheVariants as session_fault
use Rattle.grid_world.specs.Reading.{game_at}
use Rattle.grid_world.proofs.Found.{game_found}
use Rattle.line_io.specs.Files.{Contents, behind_first, content}
use Rattle.line_io.specs.Inputs.{Input}
use Rattle.line_io.proofs.Unread.{none_at}
use Rattle.roots.specs.declared.limits.TheConstants.{ROOTS_FRONT}
use Rattle.roots.specs.Reading.{roots_at}
use Rattle.text_fields.specs.declared.fault.TextFault.{TextFault}
use Rattle.text_fields.specs.declared.fault.TextFault.TheVariants as text_fault
use Rattle.run_frame.specs.Faults.{read_by}
use Rattle.run_frame.specs.Law.{HasCause}
use Rattle.run_frame.specs.Opening.{front_in}
use Rattle.run_frame.specs.Sessions.{ended_by, front_of}
use Rattle.run_frame.specs.declared.statuses.Status.{Status}
use Rattle.run_frame.specs.declared.statuses.TextName.TheVariants.{Roots}
use Rattle.run_frame.proofs.SessionRead.{fault_said}
use Rattle.run_frame.proofs.Working.{Holds}
use Rattle.file_commands.specs.Audit.{status_by}
use Rattle.accuser.specs.Accused.{first_fault, sealed_of}
use Rattle.accuse_command.specs.Accuse.{accuse_answer, found_by}
use Rattle.accuse_command.specs.AccuseLaw.{AreSealed, HasRoots, accuse_law, files_in}
use Rattle.accuse_command.specs.AccuseWords.{Accusing}
use Rattle.accuse_command.specs.Opened.{Accusation, accusation_for, after_roots, after_session, unless_bad}
use Rattle.accuse_command.specs.Told.{TellsFinding}
use Rattle.accuse_command.proofs.Meant.{finding_told}

module _ (a : Accusing) (contents : Contents) (input : Input) where
  by_files : (game : Game) (roots : List (List ℕ)) → HasRoots contents game roots → (f : Option (ℕ × ℕ)) → first_fault game roots 0 (files_in contents (length a.files)) ≡ f →
      HasCause (accuse_law a) contents input (accuse_answer (unless_bad game roots (files_in contents (length a.files)) f)).status
  by_files game roots rooted (Some (file, at)) e = record { game = game; roots = roots; rooted = rooted; fault_is = e }
  by_files game roots rooted None e = go (found_by game roots (files_in contents (length a.files))) refl
    where
      go : (fs : List Finding) → found_by game roots (files_in contents (length a.files)) ≡ fs → HasCause (accuse_law a) contents input (status_by fs)
      go [] is = record { game = game; roots = roots; sealed = record { rooted = rooted; sound = e }; cause = is }
      go (f ∷ fs) is = record { game = game; roots = roots; sealed = record { rooted = rooted; sound = e }; cause = ap is_empty is }

  by_roots : (game : Game) → game_at (front_of (content contents 0)) ≡ Ok game → (r : Result (List (List ℕ)) TextFault) →
      roots_at (players_of game) (front_in ROOTS_FRONT (content (behind_first contents) 0)) ≡ r →
      HasCause (accuse_law a) contents input (accuse_answer (after_roots game (read_by Roots r) (files_in contents (length a.files)))).status
  by_roots game read (Ok roots) e = by_files game roots (record { read = read; rooted = ap (read_by Roots) e }) (first_fault game roots 0 (files_in contents (length a.files))) refl
  by_roots game read (Err (text_fault.At line)) e = record { game = game; read = read; fault_is = ap (read_by Roots) e }
  by_roots game read (Err text_fault.Memory) e = tt

  by_session : (r : Result Game SessionFault) → game_at (front_of (content contents 0)) ≡ r →
      HasCause (accuse_law a) contents input (accuse_answer (after_session (ended_by r) (behind_first contents) (length a.files))).status
  by_session (Ok game) e = by_roots game e (roots_at (players_of game) (front_in ROOTS_FRONT (content (behind_first contents) 0))) refl
  by_session (Err (session_fault.At line what)) e = fault_said (front_of (content contents 0)) (session_fault.At line what) e
  by_session (Err session_fault.Memory) e = tt

-- what accuses, where the files are all sealed frames
due_is : (contents : Contents) (many : ℕ) (game : Game) (roots : List (List ℕ)) → AreSealed contents many game roots →
    accusation_for contents many ≡ Ok (record { game = game; roots = roots; files = files_in contents many })
due_is contents many game roots is =
    ap (λ (r : Result Game SessionFault). after_session (ended_by r) (behind_first contents) many) is.rooted.read
    ∙ ap (λ (r : Result (List (List ℕ)) Status). after_roots game r (files_in contents many)) is.rooted.rooted
    ∙ ap (unless_bad game roots (files_in contents many)) is.sound

pub accuse_holds : (a : Accusing) → Holds (accuse_law a)
accuse_holds a = record {
  caused = λ contents input ends. by_session a contents input (game_at (front_of (content contents 0))) refl;
  done = λ contents input answered ends good.
      inl (ap (λ (r : Result Accusation Status). (accuse_answer r).status) (due_is contents (length a.files) good.0 good.1 good.2) ∙ ap status_by good.3);
  meant = λ contents input game roots is bytes.
      let body = ap (λ (r : Result Accusation Status). (accuse_answer r).body) (due_is contents (length a.files) game roots is) in
      let all : List (List ℕ) = files_in contents (length a.files) in
      record {
        text_is = body;
        told = λ f m. subst (λ (text : List ℕ). TellsFinding game roots text f (sealed_of game roots all f)) (sym body) (finding_told game roots all f (game_found _ game is.rooted.read).session bytes m);
      };
  unread = λ shelf contents h n. inl (none_at (a.session ∷ a.roots ∷ a.files) n);
  unasked = λ shelf. refl;
  unremembered = λ ended. tt;
  cut = λ ended. tt;
  played_cause = λ contents input before after s p. absurd p;
  played_done = λ contents input before after s p good written. absurd p;
}
