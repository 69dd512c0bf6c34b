use Rattle.std.proofs.Common.{arith, refl}
use Rattle.std.proofs.lemmas.Option.{slice_get_read}
use Rattle.frame_index.proofs.Growing.{on_err, on_ok, spots_alike}
use Rattle.frame_index.proofs.Placed.{places_set}
use Rattle.frame_index.proofs.kept.note_at.Goals as goal

pub returns-clause-ok : goal.returns-clause-ok
returns-clause-ok c =
    let there = slice_get_read c.args.kept.now.items _ c.args.at c.index_mut.result.now refl (omega arith) c.index_mut.ensures.value in
    on_ok c.note_frame.result (λ e. (c.index_mut.result.now, there, (c.note_frame.new.one, c.note_frame.ensures.frame, c.note_frame.ensures.digest, e, refl))) c.note_frame.ensures.ok

pub returns-clause-err : goal.returns-clause-err
returns-clause-err c =
    let there = slice_get_read c.args.kept.now.items _ c.args.at c.index_mut.result.now refl (omega arith) c.index_mut.ensures.value in
    on_err c.note_frame.result (λ e. spots_alike c.args.kept.now.items _ c.args.at c.index_mut.result.now c.note_frame.new.one there c.note_frame.ensures.frame c.note_frame.ensures.digest refl e) c.note_frame.ensures.err

pub returns-clause-places : goal.returns-clause-places
returns-clause-places c =
    let there = slice_get_read c.args.kept.now.items _ c.args.at c.index_mut.result.now refl (omega arith) c.index_mut.ensures.value in
    λ places w. places_set c.args.kept.now.items c.args.at c.index_mut.result.now c.note_frame.new.one places there c.note_frame.ensures.frame c.note_frame.ensures.digest w
