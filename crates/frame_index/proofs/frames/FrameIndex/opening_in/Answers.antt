use Rattle.std.proofs.Common.{◌∙◌, ap, sym, None, Some}
use Rattle.std.specs.Prelude.{option_map}
use Rattle.frame_index.specs.Judged.{is_good}
use Rattle.frame_index.specs.OfLog.{with_track}
use Rattle.frame_index.proofs.Judging.{first_good}
use Rattle.frame_index.proofs.Lowest.{least_is}
use Rattle.frame_index.proofs.OfLog.{kept_least, opened_is}
use Rattle.frame_index.proofs.frames.FrameIndex.opening_in.Goals as goal

pub returns-in-None-clause-first : goal.returns-in-None-clause-first
returns-in-None-clause-first c logs h index there =
    let good = is_good c.args.session.now c.args.player c.args.track.now c.args.digest.now c.args.log in
    sym (ap (option_map (with_track c.args.session.now c.args.track.now))
    (first_good c.args.session.now c.args.player c.args.track.now c.args.digest.now c.args.turn logs c.args.log h _ (index.stands c.args.player c.args.turn) there None
    (least_is good _ None (kept_least good _ _ _ c.kept-kept.ensures (sym c.least_opening.ensures ∙ c.in-None.is)))))

pub returns-in-Some-clause-first : goal.returns-in-Some-clause-first
returns-in-Some-clause-first c logs h index there =
    let good = is_good c.args.session.now c.args.player c.args.track.now c.args.digest.now c.args.log in
    let keeps = index.stands c.args.player c.args.turn in
    let least = least_is good _ (Some c.in-Some.good) (kept_least good _ _ _ c.kept-kept.ensures (sym c.least_opening.ensures ∙ c.in-Some.is)) in
    c.opened.ensures.opened
    ∙ ap (option_map (with_track c.args.session.now c.args.track.now))
    (opened_is c.args.session.now c.args.player c.args.track.now c.args.digest.now c.in-Some.good.digest c.args.turn c.in-Some.good.frame (keeps.within c.in-Some.good least.0).turn (keeps.digests c.in-Some.good least.0)
    ∙ sym (first_good c.args.session.now c.args.player c.args.track.now c.args.digest.now c.args.turn logs c.args.log h _ keeps there (Some c.in-Some.good) least))
