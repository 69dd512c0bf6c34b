-- Answered: the answer from a line on, by what the line says.
use Rattle.std.proofs.Common.{◌≡◌, ◌+◌, ℕ, Bool, true, false, List, refl, ap, sym, subst, ◌∙◌}
use Rattle.station.specs.Sinks.{SinkState, after_bytes}
use Rattle.line_io.specs.Inputs.{Input, Line}
use Rattle.line_io.specs.Texts.{CutShort}
use Rattle.run_frame.specs.Frame.{Answer, Onward, after_text, bare_answer, answer_by}
use Rattle.run_frame.specs.declared.statuses.Status.TheVariants.{BadLine}
use Rattle.run_frame.specs.declared.statuses.TextName.TheVariants.{Script}
use Rattle.run_frame.proofs.Frames.{cut_text, onward_text}
use Rattle.schedule.specs.Tables.{TableState}
use Rattle.schedule_command.specs.declared.grammar.ScheduleLine.{ScheduleLine}
use Rattle.schedule_command.specs.declared.grammar.ScheduleLine.TheVariants as says
use Rattle.schedule_command.specs.Grammar.{is_bad}
use Rattle.schedule_command.specs.Schedule.{said_behind, schedule_from, table_behind, text_behind}

-- a line that says this, where the table behind it is this one
module _ (t t' : TableState) (n : ℕ) (words : List ℕ) (d : ScheduleLine) (said : d ≡ said_behind t.game n words) where
  said_line : (input : Input) → schedule_from t n (Line words input) ≡ answer_by (is_bad d) (n + 1) (text_behind t d) (schedule_from (table_behind t d) (n + 1) input)
  said_line input = ap (λ (k : ScheduleLine). answer_by (is_bad k) (n + 1) (text_behind t k) (schedule_from (table_behind t k) (n + 1) input)) (sym said)

  good_line : is_bad d ≡ false → t' ≡ table_behind t d → (input : Input) → schedule_from t n (Line words input) ≡ after_text (text_behind t d) (schedule_from t' (n + 1) input)
  good_line good e input =
      said_line input ∙ ap (λ (b : Bool). answer_by b (n + 1) (text_behind t d) (schedule_from (table_behind t d) (n + 1) input)) good
      ∙ ap (λ (u : TableState). after_text (text_behind t d) (schedule_from u (n + 1) input)) (sym e)

  pub line_told : (a b : SinkState) → is_bad d ≡ false → t' ≡ table_behind t d → b ≡ after_bytes a (text_behind t d) → (input : Input) →
      Onward a b (schedule_from t n (Line words input)) (schedule_from t' (n + 1) input)
  line_told a b good e w input = onward_text a b (text_behind t d) _ _ (good_line good e input) w

  pub line_cut : (a b : SinkState) → is_bad d ≡ false → t' ≡ table_behind t d → CutShort a b (text_behind t d) → (input : Input) → CutShort a b (schedule_from t n (Line words input)).body
  line_cut a b good e w input = cut_text a b (text_behind t d) _ (schedule_from t' (n + 1) input) (good_line good e input) w

-- a line of no grammar
pub line_refused : (t : TableState) (n : ℕ) (words : List ℕ) → says.Bad ≡ said_behind t.game n words → (input : Input) → schedule_from t n (Line words input) ≡ bare_answer (BadLine Script (n + 1))
line_refused t n words said input = said_line t t n words says.Bad said input
