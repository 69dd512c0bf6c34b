-- JudgeHolds: the law of the command to judge: each status has its cause, what is good comes to its end, and what a `yes` is worth.
use Rattle.std.proofs.Common.{Bool, List, [], ◌∷◌, false, true, ℕ, inl, refl, ap, subst, sym, ◌∙◌, ◌≡◌}
use Rattle.std.specs.Prelude.{Err, Ok, Result}
use Rattle.definitions.specs.World.{Game}
use Rattle.grid_world.specs.declared.fault.SessionFault.{SessionFault}
use Rattle.grid_world.specs.declared.fault.SessionFault.TheVariants.{At, Memory}
use Rattle.grid_world.specs.Reading.{game_at}
use Rattle.grid_world.proofs.Found.{game_found}
use Rattle.text_lines.specs.Reading.{fault_of}
use Rattle.text_fields.specs.declared.fault.TextFault.{TextFault}
use Rattle.text_fields.specs.declared.fault.TextFault.TheVariants as text
use Rattle.evidence.specs.declared.exhibit.Exhibit.{Exhibit}
use Rattle.evidence.specs.Reading.{exhibit_at}
use Rattle.line_io.specs.Files.{Contents, content}
use Rattle.line_io.specs.Inputs.{Input}
use Rattle.line_io.proofs.Unread.{none_at}
use Rattle.run_frame.specs.Frame.{Answer}
use Rattle.run_frame.specs.Law.{HasCause}
use Rattle.run_frame.specs.Sessions.{ended_by, front_of}
use Rattle.run_frame.proofs.SessionRead.{fault_said}
use Rattle.run_frame.proofs.Working.{Holds}
use Rattle.file_commands.specs.Exhibits.{case_for, evidence_front_of, exhibit_by, exhibit_in, with_exhibit}
use Rattle.file_commands.specs.Judge.{JudgeCause, is_shown, judge_answer, verdict_answer}
use Rattle.file_commands.specs.JudgeLaw.{IsCase, judge_law}
use Rattle.file_commands.specs.JudgeLaws.{TellsVerdict}
use Rattle.file_commands.specs.JudgeWords.{Judging}
use Rattle.file_commands.proofs.Verdicts.{verdict_tells}

case_answer : (contents : Contents) (case : Game × Exhibit) → IsCase contents case → judge_answer (case_for (content contents 0) (content contents 1)) ≡ judge_answer (Ok case)
case_answer contents case is =
    ap (λ (r : Result Game SessionFault). judge_answer (with_exhibit (ended_by r) (exhibit_in (content contents 1)))) is.read ∙
    ap (λ (r : Result Exhibit TextFault). judge_answer (with_exhibit (Ok case.0) (exhibit_by r))) is.exhibit

verdict_cause : (game : Game) (x : Exhibit) (b : Bool) → is_shown game x ≡ b → JudgeCause game x (verdict_answer b).status
verdict_cause game x true e = e
verdict_cause game x false e = e

judge_exhibit : (j : Judging) (contents : Contents) (input : Input) (game : Game) → game_at (front_of (content contents 0)) ≡ Ok game → (r : Result Exhibit TextFault) →
    exhibit_at (evidence_front_of (content contents 1)) ≡ r → HasCause (judge_law j) contents input (judge_answer (with_exhibit (Ok game) (exhibit_by r))).status
judge_exhibit j contents input game f (Ok x) e = go (is_shown game x) refl
  where
    go : (b : Bool) → is_shown game x ≡ b → HasCause (judge_law j) contents input (verdict_answer b).status
    go true b = record { case = (game, x); files = record { read = f; exhibit = e }; cause = b }
    go false b = record { case = (game, x); files = record { read = f; exhibit = e }; cause = b }
judge_exhibit j contents input game f (Err text.Memory) e = tt
judge_exhibit j contents input game f (Err (text.At line)) e = (record { game = game; read = f }, ap fault_of e)

judge_read : (j : Judging) (contents : Contents) (input : Input) (r : Result Game SessionFault) → game_at (front_of (content contents 0)) ≡ r →
    HasCause (judge_law j) contents input (judge_answer (with_exhibit (ended_by r) (exhibit_in (content contents 1)))).status
judge_read j contents input (Ok game) f = judge_exhibit j contents input game f (exhibit_at (evidence_front_of (content contents 1))) refl
judge_read j contents input (Err Memory) f = tt
judge_read j contents input (Err (At line what)) f = fault_said (front_of (content contents 0)) (At line what) f

pub judge_holds : (j : Judging) → Holds (judge_law j)
judge_holds j = record {
  caused = λ contents input ends. judge_read j contents input (game_at (front_of (content contents 0))) refl;
  done = λ contents input answered ends good.
      inl (ap (λ (a : Answer). a.status) (case_answer contents good.0 good.1) ∙ ap (λ (b : Bool). (verdict_answer b).status) good.2);
  meant = λ contents input case is.
      subst (λ (x : Answer). TellsVerdict case.0 case.1 x.body) (sym (case_answer contents case is)) (verdict_tells case.0 case.1 (game_found _ case.0 is.read).session.ahead.0);
  unread = λ shelf session h. inl (none_at (j.session ∷ j.evidence ∷ []) 1);
  unasked = λ shelf. refl;
  unremembered = λ ended. tt;
  cut = λ ended. tt;
  played_cause = λ contents input before after s p. absurd p;
  played_done = λ contents input before after s p good written. absurd p;
}
