use Rattle.std.proofs.Common.{◌∙◌, ap}
use Rattle.definitions.specs.Sphere.{have_common}
use Rattle.wait_rule.proofs.Sights.{sphere_struck}
use Rattle.wait_rule.proofs.meeting.meets.Goals as goal

pub returns-clause-meets : goal.returns-clause-meets
returns-clause-meets c =
    c.meets.ensures
    ∙ ap (have_common c.args.meeting.now.own.cells)
    (sphere_struck c.args.session.now c.args.meeting.now.dilation _ _ _ _ c.args.q c.args.missed c.grow_to.ensures.seen c.grow_to.ensures.turns
    c.reached.ensures c.copy_from.ensures c.grow_strike.ensures)
