use Rattle.schedule.proofs.Stepped.{brought_authentic}
use Rattle.schedule.proofs.table.Table.bring.Goals as goal

pub hear-requires-clause-authentic : goal.hear-requires-clause-authentic
hear-requires-clause-authentic c = brought_authentic c.args.self.now c.args.from c.args.to c.args.frame.now _ c.facts.ensures.authentic c.is_honest-2.ensures c.if-is_honest.false
