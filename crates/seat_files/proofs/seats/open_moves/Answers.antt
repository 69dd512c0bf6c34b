use Rattle.std.proofs.Common.{Bool, List, ℕ, sym, ◌∙◌, subst}
use Rattle.std.proofs.lemmas.Result.{err_from_is_err_and}
use Rattle.pilots.specs.Scripts.{script_at}
use Rattle.line_io.specs.Fronts.{Fetched}
use Rattle.run_frame.specs.Opening.{IsDueFor}
use Rattle.seat_files.specs.Seats.{moves_by, moves_in}
use Rattle.run_frame.proofs.FrontFaults.{nothing_opened}
use Rattle.seat_files.proofs.Seated.{moves_front_read}
use Rattle.seat_files.proofs.seats.open_moves.Goals as goal

pub returns : goal.returns
returns g c = record {
  fetched = subst (λ (f : Bool). Fetched (g.H.Shelf.state c.args.shelf.now) (g.H.Shelf.state c.read_front.new.shelf) c.args.name.now f) (sym c.moves_of.ensures.calm) c.in_ok-text.ensures.fetched;
  due = λ content h.
      subst (λ (b : List ℕ). IsDueFor (moves_by (script_at c.args.session.now.turns b)) c.moves_of.result)
      (c.as_slice.ensures.value ∙ sym (moves_front_read _ _ (c.in_ok-text.ensures.front_is content h))) c.moves_of.ensures.due;
}

pub returns-in_err-text : goal.returns-in_err-text
returns-in_err-text g c =
    let p = err_from_is_err_and c.from_residual.result c.from_residual.ensures.1 in
    rw (p.1, p.2) (nothing_opened _ _ _ _ c.in_err-text.field-0.0 (moves_in c.args.session.now) c.in_err-text.ensures)
