use Rattle.std.proofs.Common.{take}
use Rattle.lethwyrn_c.proofs.Fronts.{went_on}
use Rattle.lethwyrn_c.proofs.mark.Mark.step.Goals as goal

pub returns-clause-goes_on : goal.returns-clause-goes_on
returns-clause-goes_on c = λ id me s. went_on id me c.args.entries.now c.args.self.now.entries c.add.new.self.entries c.args.self.now.writer c.add.new.self.writer c.args.self.now.bytes c.add.new.self.bytes c.add.result
    (take c.add.result c.add.new.out) _ c.requires.there c.add.ensures.writer c.add.ensures.bytes c.add.ensures.count c.add.ensures.entries c.add.ensures.more s
