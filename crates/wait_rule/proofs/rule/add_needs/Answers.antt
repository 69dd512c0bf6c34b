use Rattle.std.proofs.Common.{◌∙◌, arith, get_or}
use Rattle.wait_rule.specs.Waiting.{no_view}
use Rattle.dilation.specs.Dilated.{cell_of}
use Rattle.wait_rule.proofs.Hindering.{needs_all, need_more, few_more, stays_on}
use Rattle.wait_rule.proofs.rule.add_needs.Goals as goal

pub loop-q-preserved : goal.loop-q-preserved
loop-q-preserved c =
    let inv = c.loop-q.invariant in
    record {
      needs = need_more c.args.session.now c.args.me c.loop-q.q c.from.result c.args.stage c.args.views.now c.args.meeting.now.dilation.cells c.loop-q.meeting.dilation.cells c.loop-q.out c.add_need.new.out
          c.from.ensures inv.stays.cells inv.needs c.add_need.ensures.needs;
      few = few_more c.args.session.now c.args.me c.loop-q.q c.args.stage (get_or c.args.views.now c.from.result no_view) (cell_of c.loop-q.meeting.dilation.cells c.loop-q.q) c.loop-q.out c.add_need.new.out
          c.add_need.ensures.needs inv.few;
      stays = stays_on _ _ _ _ inv.stays c.add_need.ensures.stays;
    }

pub returns-clause-needs : goal.returns-clause-needs
returns-clause-needs c =
    c.loop-q.invariant.needs
    ∙ needs_all c.args.session.now c.args.me c.loop-q.q c.args.stage c.args.views.now c.args.meeting.now.dilation.cells c.requires.waits (omega arith)
