use Rattle.std.proofs.Common.{◌≡◌, sym, ap, ◌∙◌, rules}
use Rattle.definitions.specs.World.{no_seat}
use Rattle.dilation.specs.Dilated.{cell_of}
use Rattle.wait_rule.specs.declared.meeting.Meeting.{Meeting}
use Rattle.wait_rule.specs.Spheres.{cells_in}
use Rattle.wait_rule.proofs.Sights.{item_stays}
use Rattle.wait_rule.proofs.rule.WaitRule.resolved.Goals as goal

pub returns-else-ne-clause-cells : goal.returns-else-ne-clause-cells
returns-else-ne-clause-cells c =
    let is : cell_of c.self.inside.meeting.dilation.cells c.args.player ≡ c.args.cell = search rules in
    let here : cell_of (cells_in c.args.self.now) c.args.player ≡ c.args.cell = ap (λ (m : Meeting). cell_of (cells_in m) c.args.player) (sym c.self.view_is) ∙ is in
    sym (item_stays (cells_in c.args.self.now) c.args.player c.args.cell no_seat.start here)
