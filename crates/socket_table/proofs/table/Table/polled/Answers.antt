use Rattle.std.proofs.Common.{get_or}
use Rattle.socket_station.specs.declared.answers.Ready.TheVariants.{Socket as Seems}
use Rattle.loop_rules.specs.After.{rested}
use Rattle.socket_table.proofs.Staying.{lists_first, lists_one, list_new, list_few}
use Rattle.socket_table.proofs.table.Table.polled.Goals as goal

pub loop-item-init : goal.loop-item-init
loop-item-init c = lists_first c.args.self.now c.go_on.new.self c.rest.new.self c.args.ready.now c.go_on.ensures.lines c.rest.ensures c.go_on.ensures.few c.requires.few c.requires.new

pub list-requires-clause-new : goal.list-requires-clause-new
list-requires-clause-new c = list_new (rested c.args.self.now) c.loop-item.self c.args.ready.now c.loop-item.item-index _ c.loop-item-test.true c.loop-item.invariant

pub list-requires-clause-few : goal.list-requires-clause-few
list-requires-clause-few c = list_few (rested c.args.self.now) c.loop-item.self c.args.ready.now c.loop-item.item-index (get_or c.args.ready.now c.loop-item.item-index (Seems 0)) c.loop-item-test.true c.loop-item.invariant

pub loop-item-preserved : goal.loop-item-preserved
loop-item-preserved c = lists_one (rested c.args.self.now) c.loop-item.self c.list.new.self c.args.ready.now c.loop-item.item-index _ c.loop-item-test.true c.loop-item.invariant c.list.ensures
