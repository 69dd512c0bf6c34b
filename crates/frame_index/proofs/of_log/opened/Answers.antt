use Rattle.std.proofs.Common.{◌∙◌, ap, sym}
use Rattle.std.specs.Result.{result_ok}
use Rattle.frame_index.proofs.Judging.{led_open}
use Rattle.frame_index.proofs.OfLog.{not_false, opens_not, opens_to}
use Rattle.frame_index.proofs.of_log.opened.Goals as goal

pub returns-in-Err-clause-opened : goal.returns-in-Err-clause-opened
returns-in-Err-clause-opened c = opens_not c.args.session.now c.args.player c.args.track.now _ c.args.one.now.frame _ _ c.in-Reveal.mv _ c.in-Err.field-0 c.in-Reveal.is (sym c.legal.ensures ∙ c.in-Err.is)

pub returns-in-Ok-clause-opened : goal.returns-in-Ok-clause-opened
returns-in-Ok-clause-opened c =
    opens_to c.args.session.now c.args.player c.args.track.now c.in-Ok.next _ c.args.one.now.frame _ _ c.in-Reveal.mv _ c.in-Reveal.is (not_false _ (sym c.ne.ensures ∙ c.if-ne.false)) (sym c.legal.ensures ∙ c.in-Ok.is)

pub returns-in-Ok-clause-track : goal.returns-in-Ok-clause-track
returns-in-Ok-clause-track c = led_open c.args.session.now c.args.player c.args.track.now c.in-Ok.next c.in-Reveal.mv (ap result_ok (sym c.legal.ensures ∙ c.in-Ok.is))
