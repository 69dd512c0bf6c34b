use Rattle.std.proofs.Common.{Bool, List, ℕ, sym, ◌∙◌, subst}
use Rattle.std.proofs.lemmas.Result.{err_from_is_err_and}
use Rattle.definitions.specs.World.{players_of}
use Rattle.rosters.specs.Reading.{roster_at}
use Rattle.line_io.specs.Fronts.{Fetched}
use Rattle.run_frame.specs.Opening.{IsDueFor}
use Rattle.seat_files.specs.Seats.{roster_by, roster_in}
use Rattle.run_frame.proofs.FrontFaults.{nothing_opened}
use Rattle.seat_files.proofs.Seated.{roster_front_read}
use Rattle.seat_files.proofs.seats.open_roster.Goals as goal

pub returns-clause-opens : goal.returns-clause-opens
returns-clause-opens g c = record {
  fetched = subst (λ (f : Bool). Fetched (g.H.Shelf.state c.args.shelf.now) (g.H.Shelf.state c.read_front.new.shelf) c.args.name.now f) (sym c.roster_of.ensures.calm) c.in_ok-text.ensures.fetched;
  due = λ content h.
      subst (λ (b : List ℕ). IsDueFor (roster_by (roster_at c.args.player (players_of c.args.session.now) b)) c.roster_of.result)
      (c.as_slice.ensures.value ∙ sym (roster_front_read _ _ (c.in_ok-text.ensures.front_is content h))) c.roster_of.ensures.due;
}

pub returns-in_err-text-clause-opens : goal.returns-in_err-text-clause-opens
returns-in_err-text-clause-opens g c =
    let p = err_from_is_err_and c.from_residual.result c.from_residual.ensures.1 in
    rw (p.1, p.2) (nothing_opened _ _ _ _ c.in_err-text.field-0.0 (roster_in c.args.session.now c.args.player) c.in_err-text.ensures)
