use Rattle.std.proofs.Common.{Option, ap, subst, sym, ℕ, ◌∙◌}
use Rattle.std.specs.Prelude.{Err, Ok, Result}
use Rattle.std.proofs.lemmas.Result.{err_from_is_err_and}
use Rattle.log_files.specs.declared.faults.FileFault.{FileFault}
use Rattle.log_files.specs.declared.taking.LogTaken.{LogTaken}
use Rattle.log_files.specs.Logs.{taken_of}
use Rattle.log_files.specs.Pieces.{TakesPiece}
use Rattle.log_files.specs.Taken.{TakesLog}
use Rattle.log_files.proofs.Ended.{ended, ended_err, ended_ok, stopped_at}
use Rattle.log_files.proofs.Reached.{reached_more, reached_none}
use Rattle.log_files.proofs.taking.take_file.Goals as goal

pub pieces-init : goal.pieces-init
pieces-init g c = reached_none _ _ _ _ _ _ c.requires.session c.requires.untaken c.new-feed.ensures.feed c.new-feed.ensures.used

pub pieces-preserved : goal.pieces-preserved
pieces-preserved g c =
    let state = g.H.Shelf.state in
    reached_more c.args.session.now (state c.args.shelf.now) (state c.pieces.shelf) (state c.take_piece.new.shelf) c.args.name.now c.args.auditor.now c.pieces.auditor c.take_piece.new.auditor c.args.log c.pieces.feed c.take_piece.new.feed c.pieces.at
    c.in-Some.count c.pieces.invariant
    (subst (λ (o : Option ℕ). TakesPiece (state c.pieces.shelf) (state c.take_piece.new.shelf) c.args.name.now c.pieces.auditor c.take_piece.new.auditor c.args.log c.pieces.feed c.take_piece.new.feed c.pieces.at (Ok o)) c.in-Some.is
    c.in_ok-count.ensures.so) c.take_piece.ensures.session c.take_piece.ensures.others

pub returns-in-None : goal.returns-in-None
returns-in-None g c =
    let state = g.H.Shelf.state in
    subst (λ (x : LogTaken). TakesLog c.args.session.now (state c.args.shelf.now) (state c.take_piece.new.shelf) c.args.name.now c.args.auditor.now c.take_piece.new.auditor c.args.log x)
    (ended_ok c.ending.result _ c.in_ok-ending-in-None.was)
    (ended _ _ _ _ _ _ _ _ _ _ c.pieces.invariant c.take_piece.new.auditor c.take_piece.new.feed
    (subst (λ (o : Option ℕ). TakesPiece (state c.pieces.shelf) (state c.take_piece.new.shelf) c.args.name.now c.pieces.auditor c.take_piece.new.auditor c.args.log c.pieces.feed c.take_piece.new.feed c.pieces.at (Ok o)) c.in-None.is
    c.in_ok-count.ensures.so) c.ending.result c.ending.ensures)

pub returns-in_err-ending-in-None : goal.returns-in_err-ending-in-None
returns-in_err-ending-in-None g c =
    let state = g.H.Shelf.state in
    let p = err_from_is_err_and c.from_residual-in_err-ending-in-None.result c.from_residual-in_err-ending-in-None.ensures.1 in
    subst (λ (x : LogTaken). TakesLog c.args.session.now (state c.args.shelf.now) (state c.take_piece.new.shelf) c.args.name.now c.args.auditor.now c.take_piece.new.auditor c.args.log x)
    (ended_err c.ending.result _ c.in_err-ending-in-None.was ∙ ap (λ (f : FileFault). taken_of (Err f)) (sym p.2) ∙ ap (λ (r : Result (Unit {0}) FileFault). taken_of r) (sym p.1))
    (ended _ _ _ _ _ _ _ _ _ _ c.pieces.invariant c.take_piece.new.auditor c.take_piece.new.feed
    (subst (λ (o : Option ℕ). TakesPiece (state c.pieces.shelf) (state c.take_piece.new.shelf) c.args.name.now c.pieces.auditor c.take_piece.new.auditor c.args.log c.pieces.feed c.take_piece.new.feed c.pieces.at (Ok o)) c.in-None.is
    c.in_ok-count.ensures.so) c.ending.result c.ending.ensures)

pub returns-in_err-count : goal.returns-in_err-count
returns-in_err-count g c =
    let state = g.H.Shelf.state in
    let p = err_from_is_err_and c.from_residual.result c.from_residual.ensures.1 in
    subst (λ (r : Result (Unit {0}) FileFault). TakesLog c.args.session.now (state c.args.shelf.now) (state c.take_piece.new.shelf) c.args.name.now c.args.auditor.now c.take_piece.new.auditor c.args.log (taken_of r)) (sym p.1)
    (stopped_at _ _ _ _ _ _ _ _ _ _ c.pieces.invariant c.take_piece.new.auditor c.take_piece.new.feed p.0
    (subst (λ (f : FileFault). TakesPiece (state c.pieces.shelf) (state c.take_piece.new.shelf) c.args.name.now c.pieces.auditor c.take_piece.new.auditor c.args.log c.pieces.feed c.take_piece.new.feed c.pieces.at (Err f)) (sym p.2)
    c.in_err-count.ensures.so) c.take_piece.ensures.session c.take_piece.ensures.others)
