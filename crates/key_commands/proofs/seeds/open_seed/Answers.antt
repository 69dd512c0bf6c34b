use Rattle.std.proofs.Common.{Bool, List, ℕ, ap, sym, ◌∙◌, subst}
use Rattle.std.specs.Prelude.{Result}
use Rattle.std.proofs.lemmas.Result.{err_from_is_err_and}
use Rattle.line_io.specs.Fronts.{Fetched}
use Rattle.run_frame.specs.Opening.{IsDueFor}
use Rattle.run_frame.proofs.FrontFaults.{nothing_opened}
use Rattle.run_frame.specs.declared.statuses.Status.{Status}
use Rattle.key_commands.specs.Seeds.{seed_in, seed_said}
use Rattle.key_commands.proofs.SeedFronts.{seed_read}
use Rattle.key_commands.proofs.seeds.open_seed.Goals as goal

pub returns : goal.returns
returns g c = record {
  fetched = subst (λ (f : Bool). Fetched (g.H.Shelf.state c.args.shelf.now) (g.H.Shelf.state c.read_front.new.shelf) c.args.name.now f) (sym c.seed_of.ensures.calm) c.in_ok-bytes.ensures.fetched;
  due = λ content h.
      subst (λ (due : Result (List ℕ) Status). IsDueFor due c.seed_of.result)
      (ap seed_said c.as_slice.ensures.value ∙ sym (seed_read _ _ (c.in_ok-bytes.ensures.front_is content h))) c.seed_of.ensures.due;
}

pub returns-in_err-bytes : goal.returns-in_err-bytes
returns-in_err-bytes g c =
    let p = err_from_is_err_and c.from_residual.result c.from_residual.ensures.1 in
    rw (p.1, p.2) (nothing_opened _ _ _ _ c.in_err-bytes.field-0.0 seed_in c.in_err-bytes.ensures)
