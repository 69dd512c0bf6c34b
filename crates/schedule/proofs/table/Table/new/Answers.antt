use Rattle.schedule.proofs.Begun.{begun_state, begun_table}
use Rattle.schedule.proofs.table.Table.new.Goals as goal

pub invariant_of-result : goal.invariant_of-result
invariant_of-result c = begun_table c.args.session.now c.in_ok-copy.copy c.args.hostile _ _ c.in_ok-copy.ensures c.in_ok-seats.ensures c.in_ok-tallies.ensures

pub returns : goal.returns
returns c = begun_state c.args.session.now c.in_ok-copy.copy c.args.hostile _ _ c.in_ok-copy.ensures c.in_ok-seats.ensures c.in_ok-tallies.ensures
