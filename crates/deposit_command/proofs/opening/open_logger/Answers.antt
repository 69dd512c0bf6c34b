use Rattle.std.proofs.Common.{Bool, List, ℕ, sym, ◌∙◌, subst}
use Rattle.std.proofs.lemmas.Result.{err_from_is_err_and}
use Rattle.rosters.specs.LoggerText.{logger_at}
use Rattle.line_io.specs.Fronts.{Fetched}
use Rattle.run_frame.specs.Faults.{read_by}
use Rattle.run_frame.specs.Opening.{IsDueFor}
use Rattle.run_frame.specs.declared.statuses.TextName.TheVariants.{Roster}
use Rattle.run_frame.proofs.FrontFaults.{nothing_opened}
use Rattle.run_frame.proofs.Opening.{front_read}
use Rattle.deposit_command.specs.Opened.{logger_in}
use Rattle.deposit_command.proofs.opening.open_logger.Goals as goal

pub returns : goal.returns
returns g c =
    let a = g.H.Shelf.state c.args.shelf.now in
    let b = g.H.Shelf.state c.read_front.new.shelf in
    let read = c.in_ok-bytes.ensures in
    record {
      fetched =
          subst (λ (f : Bool). Fetched a b c.args.name.now f)
          (sym c.logger_of.ensures.calm) read.fetched;
      due = λ content h.
          subst (λ (b : List ℕ). IsDueFor (read_by Roster (logger_at b)) c.logger_of.result)
          (c.as_slice.ensures.value ∙ sym (front_read _ _ _ (read.front_is content h)))
          c.logger_of.ensures.due;
    }

pub returns-in_err-bytes : goal.returns-in_err-bytes
returns-in_err-bytes g c =
    let p = err_from_is_err_and c.from_residual.result c.from_residual.ensures.1 in
    rw (p.1, p.2) (nothing_opened _ _ _ _ c.in_err-bytes.field-0.0 logger_in c.in_err-bytes.ensures)
