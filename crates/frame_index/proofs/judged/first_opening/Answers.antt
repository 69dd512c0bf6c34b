use Rattle.std.proofs.Common.{◌∙◌, ap, sym, None, Some}
use Rattle.std.specs.Prelude.{option_map, option_and_then}
use Rattle.std.specs.Result.{result_ok}
use Rattle.definitions.specs.Moves.{next_track}
use Rattle.frame_index.specs.Judged.{is_good}
use Rattle.frame_index.proofs.Lowest.{least_is}
use Rattle.frame_index.proofs.Judging.{first_good, first_led, opened_open_if}
use Rattle.frame_index.proofs.judged.first_opening.Goals as goal

pub returns-in-None-clause-first : goal.returns-in-None-clause-first
returns-in-None-clause-first c t logs h keeps there =
    sym (ap (option_map (next_track c.args.session.now c.args.track.now))
    (first_good c.args.session.now c.args.player c.args.track.now c.args.digest.now t logs c.args.log h c.args.seen.now keeps there None
    (least_is (is_good c.args.session.now c.args.player c.args.track.now c.args.digest.now c.args.log) c.args.seen.now None (sym c.least_good.ensures ∙ c.in-None.is))))

pub returns-in-None-judged-clause-first : goal.returns-in-None-judged-clause-first
returns-in-None-judged-clause-first c t logs h keeps there =
    ap (option_and_then result_ok) (sym c.in-None-judged.is ∙ c.judged.ensures)
    ∙ first_led c.args.session.now c.args.player c.args.track.now c.args.digest.now t logs c.args.log h c.args.seen.now keeps there c.in-Some.good
    (least_is (is_good c.args.session.now c.args.player c.args.track.now c.args.digest.now c.args.log) c.args.seen.now (Some c.in-Some.good) (sym c.least_good.ensures ∙ c.in-Some.is))

pub returns-in-Some-judged-clause-first : goal.returns-in-Some-judged-clause-first
returns-in-Some-judged-clause-first c t logs h keeps there =
    c.ok.ensures.value ∙ ap (option_and_then result_ok) (sym c.in-Some-judged.is ∙ c.judged.ensures)
    ∙ first_led c.args.session.now c.args.player c.args.track.now c.args.digest.now t logs c.args.log h c.args.seen.now keeps there c.in-Some.good
    (least_is (is_good c.args.session.now c.args.player c.args.track.now c.args.digest.now c.args.log) c.args.seen.now (Some c.in-Some.good) (sym c.least_good.ensures ∙ c.in-Some.is))

pub returns-in-Some-judged-clause-track : goal.returns-in-Some-judged-clause-track
returns-in-Some-judged-clause-track c =
    opened_open_if c.args.session.now c.args.player c.args.track.now _ c.in-Some.good.frame c.ok.result (c.ok.ensures.value ∙ ap (option_and_then result_ok) (sym c.in-Some-judged.is ∙ c.judged.ensures))
