use Rattle.std.proofs.Common.{Bool, List, ℕ, sym, ◌∙◌, subst}
use Rattle.std.proofs.lemmas.Result.{err_from_is_err_and}
use Rattle.grid_world.specs.Reading.{game_at}
use Rattle.line_io.specs.Fronts.{Fetched}
use Rattle.run_frame.specs.Sessions.{IsDue, ended_by}
use Rattle.run_frame.proofs.FrontFaults.{no_session_read}
use Rattle.run_frame.proofs.SessionRead.{front_read}
use Rattle.run_frame.proofs.sessions.open_session.Goals as goal

pub returns : goal.returns
returns g c = record {
  fetched = subst (λ (f : Bool). Fetched (g.H.Shelf.state c.args.shelf.now) (g.H.Shelf.state c.read_front.new.shelf) c.args.name.now f) (sym c.session_of.ensures.calm) c.in_ok-text.ensures.fetched;
  due = λ content h.
      subst (λ (b : List ℕ). IsDue (ended_by (game_at b)) c.session_of.result) (c.as_slice.ensures.value ∙ sym (front_read _ _ (c.in_ok-text.ensures.front_is content h))) c.session_of.ensures.due;
}

pub returns-in_err-text : goal.returns-in_err-text
returns-in_err-text g c =
    let p = err_from_is_err_and c.from_residual.result c.from_residual.ensures.1 in
    rw (p.1, p.2) (no_session_read _ _ _ _ c.in_err-text.field-0.0 c.in_err-text.ensures)
