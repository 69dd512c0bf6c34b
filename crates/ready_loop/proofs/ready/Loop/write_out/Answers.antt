use Rattle.std.proofs.Common.{sym, ◌∙◌}
use Rattle.ready_loop.proofs.Places.{at_same}
use Rattle.ready_loop.proofs.WriteAll.{milder_sockets, writing_first, writing_on, writing_ends}
use Rattle.ready_loop.proofs.CallsIn.{at_few}
use Rattle.ready_loop.proofs.ready.Loop.write_out.Goals as goal

pub loop-self-init : goal.loop-self-init
loop-self-init g c = writing_first c.args.socket _ c.args.self.now c.requires.serving c.requires.shut

pub wants_write-requires : goal.wants_write-requires
wants_write-requires g c = at_few c.args.self.now.table c.loop-self.self.table c.args.place c.args.socket (milder_sockets c.args.self.now.table c.loop-self.self.table c.loop-self.invariant.serves.milder) c.requires.at

pub write-requires-clause-at : goal.write-requires-clause-at
write-requires-clause-at g c = at_same c.args.self.now.table c.loop-self.self.table c.args.place c.args.socket (milder_sockets c.args.self.now.table c.loop-self.self.table c.loop-self.invariant.serves.milder) c.requires.at

pub write-requires-clause-serving : goal.write-requires-clause-serving
write-requires-clause-serving g c = c.loop-self.invariant.serving

pub write-requires-clause-shut : goal.write-requires-clause-shut
write-requires-clause-shut g c = c.loop-self.invariant.shut

pub loop-self-smaller : goal.loop-self-smaller
loop-self-smaller g c = c.write.ensures.less

pub loop-self-preserved : goal.loop-self-preserved
loop-self-preserved g c = writing_on c.args.place c.args.socket _ _ _ c.args.self.now c.loop-self.self c.write.new.self c.loop-self.invariant c.write.ensures

pub returns : goal.returns
returns g c = writing_ends c.args.place c.args.socket _ _ c.args.self.now c.loop-self.self c.loop-self.invariant (λ x h. sym (c.wants_write.ensures x h) ∙ c.loop-self-test.false)
