use Rattle.std.proofs.Common.{◌≡◌, ◌∙◌, ℕ, ◌+◌, suc, sym, ap, Some, None, Err, add-one}
use Rattle.text_lines.proofs.FirstLine.{line_at-none, line_at-some}
use Rattle.text_fields.specs.declared.fault.TextFault.TheVariants.{At}
use Rattle.seal_keys.specs.Seals.{seal_len}
use Rattle.sealed_text.specs.Reading.{line_after, seal_said}
use Rattle.sealed_text.proofs.Steps.{seal_said-empty}
use Rattle.sealed_text.proofs.reading.next_seal.Goals as goal

pub returns-then-not-seal_in-clause-said : goal.returns-then-not-seal_in-clause-said
returns-then-not-seal_in-clause-said c =
    let n = seal_len c.args.session.now in
    let line = c.take_line.result.0.now in
    let none : seal_said n line ≡ None = ap (λ (k : ℕ). seal_said k line) (sym c.requires.room) ∙ c.if-not-seal_in.ensures.said in
    line_at-none (At (suc (line_after c.args.count))) (seal_said n) c.args.text.now line (seal_said-empty n) c.take_line.ensures.line none
    ∙ ap (λ (m : ℕ). Err (At m)) (sym (add-one (line_after c.args.count)) ∙ ap (λ (m : ℕ). m + 1) (sym c.number_after.ensures))

pub returns-clause-said : goal.returns-clause-said
returns-clause-said c =
    let n = seal_len c.args.session.now in
    let line = c.take_line.result.0.now in
    let some : seal_said n line ≡ Some c.set.new.self = ap (λ (k : ℕ). seal_said k line) (sym c.requires.room) ∙ c.if-not-seal_in.ensures.said ∙ ap Some (sym c.set.ensures) in
    line_at-some (At (suc (line_after c.args.count))) (seal_said n) c.args.text.now line c.take_line.result.1.now c.set.new.self (seal_said-empty n)
    c.take_line.ensures.line c.take_line.ensures.rest some
