use Rattle.std.proofs.Common.{arith, refl, subst}
use Rattle.std.specs.Prelude.{OnErr, OnOk}
use Rattle.frame_index.proofs.Growing.{on_err, on_ok}
use Rattle.frame_index.proofs.Indexed.{alike_at, taken_at}
use Rattle.frame_index.proofs.Parted.{refused_in_rows, taken_in_rows}
use Rattle.frame_index.specs.Frames.{IndexState, IsRefused, IsTaken}
use Rattle.frame_index.specs.Rows.{kept_by}
use Rattle.frame_index.proofs.frames.FrameIndex.take_frame.Goals as goal

pub returns-clause-ok : goal.returns-clause-ok
returns-clause-ok c =
    let old : IndexState = record { rows = c.self.inside.rows.items; beyond = c.self.inside.beyond.entries } in
    let new : IndexState = record { rows = c.take_frame.new.rows.items; beyond = c.self.inside.beyond.entries } in
    subst (λ (x : IndexState). OnOk c.take_frame.result (IsTaken c.args.session.now c.args.frame.now c.args.spot x new)) c.self.view_is
    (on_ok c.take_frame.result (λ grows. taken_in_rows old new refl c.args.session.now c.args.frame.now c.args.spot (let t = c.key_of-player.ensures.turn in omega (arith, c.if-turn-ge-MOST_TURNS.false))
    (taken_at (kept_by old.rows) (kept_by c.take_frame.new.rows.items) _ _ c.args.session.now c.args.frame.now c.args.spot c.key_of-player.ensures.player c.key_of-player.ensures.turn grows c.take_frame.ensures.others))
    c.take_frame.ensures.ok)

pub returns-clause-err : goal.returns-clause-err
returns-clause-err c =
    let old : IndexState = record { rows = c.self.inside.rows.items; beyond = c.self.inside.beyond.entries } in
    let new : IndexState = record { rows = c.take_frame.new.rows.items; beyond = c.self.inside.beyond.entries } in
    subst (λ (x : IndexState). OnErr c.take_frame.result (IsRefused x new)) c.self.view_is
    (on_err c.take_frame.result (λ alike. refused_in_rows old new refl
    (alike_at (kept_by old.rows) (kept_by c.take_frame.new.rows.items) _ _ alike c.take_frame.ensures.others)) c.take_frame.ensures.err)
