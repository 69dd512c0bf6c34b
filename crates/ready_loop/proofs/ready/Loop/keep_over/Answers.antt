use Rattle.ready_loop.proofs.Began.{taking_first, taking_next, taking_whole, taking_stops, taking_more, taking_all, more_over, none_over}
use Rattle.ready_loop.proofs.ready.Loop.keep_over.Goals as goal

pub loop-self-init : goal.loop-self-init
loop-self-init g c = taking_first _ c.args.self.now c.requires.taking

pub keep_next-requires-clause-some : goal.keep_next-requires-clause-some
keep_next-requires-clause-some g c = taking_next _ _ c.args.self.now c.loop-self.self c.loop-self.invariant (more_over _ c.loop-self.self c.self.view_is c.loop-self-test.true)

pub keep_next-requires-clause-whole : goal.keep_next-requires-clause-whole
keep_next-requires-clause-whole g c = taking_whole c.loop-self.self.phase c.loop-self.invariant.taking.logged

pub returns-then-not-keep_next : goal.returns-then-not-keep_next
returns-then-not-keep_next g c =
    taking_stops c.keep_next.result _ _ _ c.args.self.now c.loop-self.self c.keep_next.new.self c.loop-self.invariant (more_over _ c.loop-self.self c.self.view_is c.loop-self-test.true) c.keep_next.ensures.fits c.if-not-keep_next.true c.keep_next.ensures.told c.keep_next.ensures.after

pub loop-self-smaller : goal.loop-self-smaller
loop-self-smaller g c = (taking_more c.keep_next.result _ _ _ c.args.self.now c.loop-self.self c.keep_next.new.self c.loop-self.invariant (more_over _ c.loop-self.self c.self.view_is c.loop-self-test.true) c.keep_next.ensures.fits c.if-not-keep_next.false c.keep_next.ensures.told c.keep_next.ensures.after).1

pub loop-self-preserved : goal.loop-self-preserved
loop-self-preserved g c = (taking_more c.keep_next.result _ _ _ c.args.self.now c.loop-self.self c.keep_next.new.self c.loop-self.invariant (more_over _ c.loop-self.self c.self.view_is c.loop-self-test.true) c.keep_next.ensures.fits c.if-not-keep_next.false c.keep_next.ensures.told c.keep_next.ensures.after).0

pub returns : goal.returns
returns g c = taking_all _ _ c.args.self.now c.loop-self.self c.loop-self.invariant (none_over _ c.loop-self.self c.self.view_is c.loop-self-test.false)
