use Rattle.std.proofs.Common.{arith, length, ℕ, ◌≡◌, ◌+◌, ◌-◌, ◌<◌, ◌≤◌, subst}
use Rattle.std.proofs.lemmas.Grind.{common_steps}
use Rattle.std.proofs.lemmas.Result.{err_from_is_err_and}
use Rattle.line_io.proofs.Pieces.{Fetching, fetching_none, fetching_more, fetched_so, call_split, front_none, front_more, front_full, front_refused, front_stopped}
use Rattle.line_io.proofs.fronts.read_front.Goals as goal

pub returns-in_err-chunk : goal.returns-in_err-chunk
returns-in_err-chunk g c =
    let p = err_from_is_err_and c.from_residual.result c.from_residual.ensures.1 in
    rw (p.1, p.2) (record { fetched = fetched_so _ _ _ _ (fetching_none _ _); front_is = λ content h. tt; short = tt })

pub chunks-init : goal.chunks-init
chunks-init g c =
    let none : 0 ≡ length c.new-text.result.items = grind (arith, common_steps) in
    let shelf = g.H.Shelf.state c.args.shelf.now in
    record {
      fetching = subst (λ (n : ℕ). Fetching shelf shelf c.args.name.now n) none (fetching_none shelf c.args.name.now);
      front = λ content h. front_none _ _ c.new-text.ensures.items;
      short = omega (arith, none);
      room = c.in_ok-chunk.ensures;
    }

pub returns-in_err-take_piece : goal.returns-in_err-take_piece
returns-in_err-take_piece g c =
    let p = err_from_is_err_and c.from_residual-in_err-take_piece.result c.from_residual-in_err-take_piece.ensures.1 in
    rw (p.1, p.2)
    (front_refused _ _ _ _ _ c.take_piece.new.text.items (length c.as_mut_slice.result.now) _ c.in_err-take_piece.field-0.0 c.chunks.invariant.fetching c.in_err-take_piece.ensures)

pub returns-then-branch-eq0 : goal.returns-then-branch-eq0
returns-then-branch-eq0 g c =
    front_stopped _ _ _ _ _ _ (length c.as_mut_slice.result.now) _ c.in_ok-take_piece.field-0 c.chunks.invariant.fetching c.chunks.invariant.front c.chunks.invariant.short c.in_ok-take_piece.ensures c.if-branch-eq0.true

pub chunks-preserved : goal.chunks-preserved
chunks-preserved g c =
    let more = c.in_ok-take_piece.ensures in
    let some : 0 < length more.0 = omega (arith, more.2, c.if-branch-eq0.false) in
    let long : length c.chunks.text.items + length more.0 ≡ length c.take_piece.new.text.items = grind (arith, common_steps, more.4) in
    let within : length c.as_mut_slice.result.now ≤ c.args.limit - length c.chunks.text.items = grind (arith, common_steps) in
    let shelf = g.H.Shelf.state c.args.shelf.now in
    record {
      fetching = subst (λ (n : ℕ). Fetching shelf (g.H.Shelf.state c.take_piece.new.shelf) c.args.name.now n) long (fetching_more _ _ _ _ _ more.0 c.chunks.invariant.fetching more.1 some);
      front = λ content h.
          let r = call_split content _ _ _ _ _ _ c.chunks.invariant.fetching more.1 h in
          front_more _ _ _ _ (c.chunks.invariant.front content r.0) r.1 more.4;
      short = omega (arith, long, within, more.2, more.3, c.chunks.invariant.short);
      room = grind (arith, common_steps);
    }

pub returns : goal.returns
returns g c =
    let full : length c.chunks.text.items ≡ c.args.limit = grind (arith, common_steps) in
    record {
      fetched = fetched_so _ _ _ _ c.chunks.invariant.fetching;
      front_is = λ content h. front_full _ _ _ (c.chunks.invariant.front content h) c.requires full;
      short = c.chunks.invariant.short;
    }
