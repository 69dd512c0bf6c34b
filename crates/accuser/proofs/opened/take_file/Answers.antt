use Rattle.std.proofs.Common.{Option, ap, subst, sym, ℕ, ◌∙◌}
use Rattle.std.specs.Prelude.{Err, Ok}
use Rattle.std.proofs.lemmas.Result.{err_from_is_err_and}
use Rattle.accuser.specs.declared.pieces.FileFault.{FileFault}
use Rattle.accuser.specs.Feeds.{Feeding}
use Rattle.accuser.specs.Opened.{IsPiece, TakesFile}
use Rattle.accuser.proofs.Reached.{Reached, answered, ended, reached_more, reached_none, room_end, stopped_at}
use Rattle.accuser.proofs.opened.take_file.Goals as goal

pub pieces-init : goal.pieces-init
pieces-init g c =
    let s = g.H.Shelf.state c.args.shelf.now in
    subst (λ (f : Feeding). Reached c.args.session.now c.args.roots.now s s c.args.name.now c.args.taker.now c.args.taker.now c.args.file f 0) (sym c.new-feed.ensures)
    (reached_none c.args.session.now c.args.roots.now s c.args.name.now c.args.taker.now c.args.file c.requires.of_session c.requires.untaken)

pub pieces-preserved : goal.pieces-preserved
pieces-preserved g c =
    let state = g.H.Shelf.state in
    reached_more c.args.session.now c.args.roots.now (state c.args.shelf.now) (state c.pieces.shelf) (state c.take_piece.new.shelf) c.args.name.now c.args.taker.now c.pieces.taker c.args.file c.pieces.feed c.pieces.at
    c.pieces.invariant c.take_piece.new.taker c.take_piece.new.feed c.in-Some.count
    (subst (λ (o : Option ℕ). IsPiece c.args.session.now c.args.roots.now (state c.pieces.shelf) (state c.take_piece.new.shelf) c.args.name.now c.pieces.taker c.take_piece.new.taker c.args.file c.pieces.feed c.take_piece.new.feed c.pieces.at (Ok o))
    c.in-Some.is c.in_ok-count.ensures.so) c.take_piece.ensures.leaves

pub finish-requires-clause-room : goal.finish-requires-clause-room
finish-requires-clause-room g c =
    let state = g.H.Shelf.state in
    room_end c.args.session.now c.args.roots.now (state c.args.shelf.now) (state c.pieces.shelf) (state c.take_piece.new.shelf) c.args.name.now c.args.taker.now c.pieces.taker c.args.file c.pieces.feed c.pieces.at
    c.pieces.invariant c.take_piece.new.taker c.take_piece.new.feed
    (subst (λ (o : Option ℕ). IsPiece c.args.session.now c.args.roots.now (state c.pieces.shelf) (state c.take_piece.new.shelf) c.args.name.now c.pieces.taker c.take_piece.new.taker c.args.file c.pieces.feed c.take_piece.new.feed c.pieces.at (Ok o))
    c.in-None.is c.in_ok-count.ensures.so)

pub returns-in-None : goal.returns-in-None
returns-in-None g c =
    let state = g.H.Shelf.state in
    subst (TakesFile c.args.session.now c.args.roots.now (state c.args.shelf.now) (state c.take_piece.new.shelf) c.args.name.now c.args.taker.now c.finish.new.taker c.args.file) (ap answered c.in_ok-finish-in-None.was)
    (ended c.args.session.now c.args.roots.now (state c.args.shelf.now) (state c.pieces.shelf) (state c.take_piece.new.shelf) c.args.name.now c.args.taker.now c.pieces.taker c.args.file c.pieces.feed c.pieces.at
    c.pieces.invariant c.take_piece.new.taker c.finish.new.taker c.take_piece.new.feed c.finish.result
    (subst (λ (o : Option ℕ). IsPiece c.args.session.now c.args.roots.now (state c.pieces.shelf) (state c.take_piece.new.shelf) c.args.name.now c.pieces.taker c.take_piece.new.taker c.args.file c.pieces.feed c.take_piece.new.feed c.pieces.at (Ok o))
    c.in-None.is c.in_ok-count.ensures.so) c.finish.ensures.finishes c.finish.ensures.leaves)

pub returns-in_err-finish-in-None : goal.returns-in_err-finish-in-None
returns-in_err-finish-in-None g c =
    let state = g.H.Shelf.state in
    let p = err_from_is_err_and c.from_residual-in_err-finish-in-None.result c.from_residual-in_err-finish-in-None.ensures.1 in
    subst (TakesFile c.args.session.now c.args.roots.now (state c.args.shelf.now) (state c.take_piece.new.shelf) c.args.name.now c.args.taker.now c.finish.new.taker c.args.file)
    (ap answered c.in_err-finish-in-None.was ∙ ap (λ (f : FileFault). Err f) (sym p.2) ∙ sym p.1)
    (ended c.args.session.now c.args.roots.now (state c.args.shelf.now) (state c.pieces.shelf) (state c.take_piece.new.shelf) c.args.name.now c.args.taker.now c.pieces.taker c.args.file c.pieces.feed c.pieces.at
    c.pieces.invariant c.take_piece.new.taker c.finish.new.taker c.take_piece.new.feed c.finish.result
    (subst (λ (o : Option ℕ). IsPiece c.args.session.now c.args.roots.now (state c.pieces.shelf) (state c.take_piece.new.shelf) c.args.name.now c.pieces.taker c.take_piece.new.taker c.args.file c.pieces.feed c.take_piece.new.feed c.pieces.at (Ok o))
    c.in-None.is c.in_ok-count.ensures.so) c.finish.ensures.finishes c.finish.ensures.leaves)

pub returns-in_err-count : goal.returns-in_err-count
returns-in_err-count g c =
    let state = g.H.Shelf.state in
    let p = err_from_is_err_and c.from_residual.result c.from_residual.ensures.1 in
    subst (TakesFile c.args.session.now c.args.roots.now (state c.args.shelf.now) (state c.take_piece.new.shelf) c.args.name.now c.args.taker.now c.take_piece.new.taker c.args.file) (sym p.1)
    (stopped_at c.args.session.now c.args.roots.now (state c.args.shelf.now) (state c.pieces.shelf) (state c.take_piece.new.shelf) c.args.name.now c.args.taker.now c.pieces.taker c.args.file c.pieces.feed c.pieces.at
    c.pieces.invariant c.take_piece.new.taker c.take_piece.new.feed p.0
    (subst (λ (f : FileFault). IsPiece c.args.session.now c.args.roots.now (state c.pieces.shelf) (state c.take_piece.new.shelf) c.args.name.now c.pieces.taker c.take_piece.new.taker c.args.file c.pieces.feed c.take_piece.new.feed c.pieces.at (Err f))
    (sym p.2) c.in_err-count.ensures.so) c.take_piece.ensures.leaves)
