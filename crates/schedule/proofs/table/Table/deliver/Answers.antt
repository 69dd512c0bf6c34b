use Rattle.schedule.proofs.Stepped.{delivered_authentic}
use Rattle.schedule.proofs.table.Table.deliver.Goals as goal

pub hear-requires-clause-authentic : goal.hear-requires-clause-authentic
hear-requires-clause-authentic c = delivered_authentic c.args.self.now c.args.from c.args.to c.args.place c.in-Some.frame c.facts.ensures.authentic c.in-Some.ensures
