use Rattle.std.proofs.Common.{◌∙◌, sym}
use Rattle.frame_index.proofs.OfLog.{leads_by, left_out, passed_over, taken_in}
use Rattle.frame_index.proofs.of_log.lower_opening.Goals as goal

pub returns-then-not-has : goal.returns-then-not-has
returns-then-not-has c = passed_over (leads_by c.args.session.now c.args.player c.args.track.now c.args.digest.now) c.args.log c.args.one.now c.args.best (sym c.has.ensures ∙ c.if-not-has.true)

pub returns-then-not-leads : goal.returns-then-not-leads
returns-then-not-leads c = left_out (leads_by c.args.session.now c.args.player c.args.track.now c.args.digest.now) c.args.log c.args.one.now c.args.best (sym c.leads.ensures ∙ c.if-not-leads.true)

pub returns : goal.returns
returns c = c.lower_in.ensures ∙ taken_in (leads_by c.args.session.now c.args.player c.args.track.now c.args.digest.now) c.args.log c.args.one.now c.args.best (sym c.leads.ensures ∙ c.if-not-leads.false)
