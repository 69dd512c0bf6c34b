use Rattle.std.proofs.Common.{ap, arith, length, List}
use Rattle.definitions.specs.declared.logs.Entry.{Entry}
use Rattle.ready_loop.proofs.CallsIn.{no_fault, made_first, made_stops, made_more, kept_smaller, made_end}
use Rattle.ready_loop.proofs.ready.Loop.keep_made.Goals as goal

pub loop-self-init : goal.loop-self-init
loop-self-init g c = made_first _ c.args.self.now c.requires.told c.requires.running c.requires.made

pub keep_next-requires-clause-whole : goal.keep_next-requires-clause-whole
keep_next-requires-clause-whole g c = no_fault c.loop-self.self.phase c.loop-self.invariant.running

pub returns-then-not-keep_next : goal.returns-then-not-keep_next
returns-then-not-keep_next g c =
    made_stops c.keep_next.result _ _ _ c.args.self.now c.loop-self.self c.keep_next.new.self _ c.self-in-loop-self.inside.writer c.entries.result.now c.loop-self.invariant c.facts.ensures.session.ahead.0 c.self-in-loop-self.view_is c.self-in-loop-self.invariant c.loop-self-test.true c.entries.ensures
    c.keep_next.ensures.fits c.if-not-keep_next.true c.keep_next.ensures.told c.keep_next.ensures.after

pub loop-self-smaller : goal.loop-self-smaller
loop-self-smaller g c = kept_smaller c.keep_next.result c.loop-self.self c.keep_next.new.self _ c.entries.result.now c.self-in-loop-self.view_is c.loop-self-test.true c.entries.ensures c.if-not-keep_next.false c.keep_next.ensures.after

pub loop-self-preserved : goal.loop-self-preserved
loop-self-preserved g c =
    made_more c.keep_next.result _ _ _ c.args.self.now c.loop-self.self c.keep_next.new.self _ c.self-in-loop-self.inside.writer c.entries.result.now c.loop-self.invariant c.facts.ensures.session.ahead.0 c.self-in-loop-self.view_is c.self-in-loop-self.invariant c.loop-self-test.true c.entries.ensures
    c.keep_next.ensures.fits c.if-not-keep_next.false c.keep_next.ensures.told c.keep_next.ensures.after

pub returns : goal.returns
returns g c =
    made_end _ _ c.args.self.now c.loop-self.self _ c.loop-self.invariant c.facts.ensures.session.ahead.0 c.self-in-loop-self.view_is
    (let end = c.loop-self-test.false in let few = c.self-in-loop-self.invariant.kept in let all = ap (λ (es : List Entry). length es) c.entries.ensures in omega (arith, end, few, all))
