use Rattle.schedule.specs.declared.steps.Step.TheVariants as S
use Rattle.schedule.proofs.Refusals.{stepped_same}
use Rattle.schedule.proofs.table.Table.step.Goals as goal

pub returns-in-Choose-clause-refused : goal.returns-in-Choose-clause-refused
returns-in-Choose-clause-refused c e = stepped_same c.args.self.now _ (S.Choose c.in-Choose.player c.in-Choose.mv c.in-Choose.nonce) c.choose.result c.choose.ensures e

pub returns-in-Deliver-clause-refused : goal.returns-in-Deliver-clause-refused
returns-in-Deliver-clause-refused c e = stepped_same c.args.self.now _ (S.Deliver c.in-Deliver.from c.in-Deliver.to c.in-Deliver.place) c.deliver.result c.deliver.ensures e

pub returns-in-Hostile-clause-refused : goal.returns-in-Hostile-clause-refused
returns-in-Hostile-clause-refused c e = stepped_same c.args.self.now _ (S.Hostile c.in-Hostile.from c.in-Hostile.to c.in-Hostile.frame) c.bring.result c.bring.ensures e

pub returns-in-Stop-clause-refused : goal.returns-in-Stop-clause-refused
returns-in-Stop-clause-refused c e = stepped_same c.args.self.now _ (S.Stop c.in-Stop.player c.in-Stop.keep) c.stop.result c.stop.ensures e
