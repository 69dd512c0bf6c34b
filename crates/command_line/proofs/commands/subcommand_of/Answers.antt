use Rattle.std.proofs.Common.{◌≡◌, ◌∙◌, ap, ap₂, rules, true, Some, ℕ}
use Rattle.std.specs.Prelude.{max}
use Rattle.std.proofs.lemmas.Result.{IfOk-weaker}
use Rattle.clap.specs.Simple.{App, new_app, with_rule}
use Rattle.clap.specs.Walk.{Rule, rule_of}
use Rattle.clap.specs.declared.builder.range.ValueRange.{ValueRange}
use Rattle.command_line.specs.Commands.{words_of}
use Rattle.command_names.specs.Names.{Form, least_of, most_of}
use Rattle.command_line.proofs.Building.{is_some_value, max-least}
use Rattle.command_line.proofs.commands.subcommand_of.Goals as goal

abbrev range_of : ℕ → ℕ → ValueRange
range_of least most = record { start_inclusive = least; end_inclusive = most }

pub returns-clause-shape : goal.returns-clause-shape
returns-clause-shape c =
    let name = c.args.name in
    let least : c.new-2.result.start ≡ least_of name = c.new-2.ensures.start ∙ ap (λ (f : Form). f.least) c.form-form.ensures in
    let most : max c.new-2.result.end c.new-2.result.start ≡ most_of name = ap₂ max (c.new-2.ensures.end ∙ ap (λ (f : Form). f.most) c.form-form.ensures) least ∙ max-least name in
    let range : c.num_args.result.num_vals ≡ Some (range_of (least_of name) (most_of name))
    = is_some_value _ _ c.num_args.ensures.1 ∙ ap Some (ap₂ range_of least most) in
    let counted : rule_of c.num_args.result ≡ record (rule_of c.new.result) { range = c.num_args.result.num_vals } = ap rule_of c.num_args.ensures.0 in
    let needed : rule_of c.required-words.result ≡ record (rule_of c.num_args.result) { required = true } = ap rule_of c.required-words.ensures in
    let rule : rule_of c.required-words.result ≡ words_of name
    = needed ∙ ap (λ (r : Rule). record r { required = true }) (counted ∙ ap₂ (λ (r : Rule) x. record r { range = x }) c.new.ensures.rule range) in
    let made = c.new-3.ensures.app ∙ ap (λ (f : Form). new_app f.text) c.form-form.ensures in
    IfOk-weaker c.arg.result _ _ (λ m h. ap (λ (a : App). a.top) (h.shape (search rules) ∙ ap₂ with_rule made rule)) c.arg.ensures
