use Rattle.std.proofs.Common.{Bool, List, ℕ, sym, ◌∙◌, subst}
use Rattle.std.proofs.lemmas.Result.{err_from_is_err_and}
use Rattle.line_io.specs.Fronts.{Fetched}
use Rattle.sealed_text.specs.declared.limits.TheConstants.{SEALED_FRONT}
use Rattle.sealed_text.specs.Reading.{sealed_at}
use Rattle.run_frame.specs.Faults.{read_by}
use Rattle.run_frame.specs.Opening.{IsDueFor}
use Rattle.run_frame.specs.declared.statuses.TextName.TheVariants.{Evidence}
use Rattle.run_frame.proofs.FrontFaults.{nothing_opened}
use Rattle.run_frame.proofs.Opening.{front_read}
use Rattle.file_commands.specs.SealedCases.{sealed_in}
use Rattle.file_commands.proofs.sealed_cases.open_sealed.Goals as goal

pub returns : goal.returns
returns g c = record {
  fetched = subst (λ (f : Bool). Fetched (g.H.Shelf.state c.args.shelf.now) (g.H.Shelf.state c.read_front.new.shelf) c.args.name.now f) (sym c.sealed_of.ensures.calm) c.in_ok-text.ensures.fetched;
  due = λ content h.
      subst (λ (b : List ℕ). IsDueFor (read_by Evidence (sealed_at c.args.session.now b)) c.sealed_of.result)
      (c.as_slice.ensures.value ∙ sym (front_read SEALED_FRONT _ _ (c.in_ok-text.ensures.front_is content h))) c.sealed_of.ensures.due;
}

pub returns-in_err-text : goal.returns-in_err-text
returns-in_err-text g c =
    let p = err_from_is_err_and c.from_residual.result c.from_residual.ensures.1 in
    rw (p.1, p.2) (nothing_opened _ _ _ _ c.in_err-text.field-0.0 (sealed_in c.args.session.now) c.in_err-text.ensures)
