use Rattle.std.proofs.Common.{Bool, List, ℕ, sym, ◌∙◌, subst}
use Rattle.std.proofs.lemmas.Result.{err_from_is_err_and}
use Rattle.line_io.specs.Fronts.{Fetched}
use Rattle.old_log.proofs.Fetched.{log_front_read}
use Rattle.run_frame.proofs.FrontFaults.{nothing_opened}
use Rattle.key_commands.specs.Due.{IsPeerDue}
use Rattle.key_commands.specs.Opened.{made_in}
use Rattle.key_commands.proofs.opening.open_peer.Goals as goal

pub returns-clause-opens : goal.returns-clause-opens
returns-clause-opens g c = record {
  fetched = subst (λ (f : Bool). Fetched (g.H.Shelf.state c.args.shelf.now) (g.H.Shelf.state c.read_front.new.shelf) c.args.name.now f) (sym c.peer_of.ensures.calm) c.in_ok-bytes.ensures.fetched;
  due = λ content h.
      subst (λ (b : List ℕ). IsPeerDue c.args.session.now c.args.player b c.peer_of.result)
      (c.as_slice.ensures.value ∙ sym (log_front_read _ _ (c.in_ok-bytes.ensures.front_is content h))) c.peer_of.ensures.due;
}

pub returns-in_err-bytes-clause-opens : goal.returns-in_err-bytes-clause-opens
returns-in_err-bytes-clause-opens g c =
    let p = err_from_is_err_and c.from_residual.result c.from_residual.ensures.1 in
    rw (p.1, p.2) (nothing_opened _ _ _ _ c.in_err-bytes.field-0.0 (made_in c.args.session.now c.args.player) c.in_err-bytes.ensures)
