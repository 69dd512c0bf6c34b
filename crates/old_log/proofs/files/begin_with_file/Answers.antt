use Rattle.std.proofs.Common.{List, ℕ, sym, ◌∙◌, subst}
use Rattle.std.specs.Prelude.{Result, Err}
use Rattle.std.proofs.lemmas.Result.{err_from_is_err_and}
use Rattle.line_io.specs.declared.fronts.FrontFault.{FrontFault}
use Rattle.line_io.specs.declared.fronts.FrontFault.TheVariants.{NoMemory, Failed}
use Rattle.run_frame.specs.Faults.{status_of_front}
use Rattle.run_frame.specs.declared.statuses.Status.{Status}
use Rattle.run_frame.proofs.FrontFaults.{front_fetched}
use Rattle.old_log.specs.Old.{old_fault}
use Rattle.old_log.specs.Beginnings.{Beginning}
use Rattle.old_log.specs.Begun.{IsStartFor, old_beginning}
use Rattle.old_log.proofs.Fetched.{log_front_read}
use Rattle.old_log.proofs.files.begin_with_file.Goals as goal

-- nothing is begun with where the log's file was not read
no_start : (player : ℕ) (due : Result Beginning Status) (fault : FrontFault) → IsStartFor player due (Err (status_of_front fault))
no_start player due NoMemory = tt
no_start player due Failed = tt

pub returns-clause-due : goal.returns-clause-due
returns-clause-due g c = λ content h.
    subst (λ (b : List ℕ). IsStartFor c.args.player (old_beginning c.args.session.now b (old_fault c.args.session.now c.args.player b)) c.begin_with.result)
    (c.as_slice.ensures.value ∙ sym (log_front_read _ _ (c.in_ok-bytes.ensures.front_is content h))) c.begin_with.ensures.due

pub returns-in_err-bytes-clause-fetched : goal.returns-in_err-bytes-clause-fetched
returns-in_err-bytes-clause-fetched g c =
    let p = err_from_is_err_and c.from_residual.result c.from_residual.ensures.1 in
    rw (p.1, p.2) (front_fetched _ _ _ _ c.in_err-bytes.field-0.0 c.in_err-bytes.ensures)

pub returns-in_err-bytes-clause-due : goal.returns-in_err-bytes-clause-due
returns-in_err-bytes-clause-due g c = λ content h.
    let p = err_from_is_err_and c.from_residual.result c.from_residual.ensures.1 in
    rw (p.1, p.2) (no_start c.args.player _ c.in_err-bytes.field-0.0)
