use Rattle.own_moves.proofs.Adding.{adds_made, adds_on, chosen_smaller, still_made, makes_all, makes_some}
use Rattle.own_moves.proofs.making.make_all.Goals as goal

pub loop-peer-init : goal.loop-peer-init
loop-peer-init g c = adds_made _ c.args.peer.now c.advance.new.self c.facts.ensures.session.ahead.0 c.advance.ensures.log

pub choose_next-made-requires-clause-made : goal.choose_next-made-requires-clause-made
choose_next-made-requires-clause-made g c = still_made _ _ _ c.args.peer.now c.loop-peer.peer c.loop-peer.invariant

pub loop-peer-smaller : goal.loop-peer-smaller
loop-peer-smaller g c = chosen_smaller _ _ c.choose_next-made.result c.are_legal.result c.loop-peer.peer c.choose_next-made.new.peer c.choose_next-made.ensures c.are_legal.ensures c.if-not-are_legal.false c.facts-in-loop-peer.ensures.chosen_few

pub loop-peer-preserved : goal.loop-peer-preserved
loop-peer-preserved g c = adds_on _ _ _ c.choose_next-made.result c.are_legal.result c.args.peer.now c.loop-peer.peer c.choose_next-made.new.peer c.loop-peer.invariant c.choose_next-made.ensures c.are_legal.ensures c.if-not-are_legal.false

pub returns-then-not-are_legal : goal.returns-then-not-are_legal
returns-then-not-are_legal g c = makes_some _ _ _ c.choose_next-made.result c.are_legal.result c.args.peer.now c.loop-peer.peer c.choose_next-made.new.peer c.loop-peer.invariant c.choose_next-made.ensures c.are_legal.ensures c.if-not-are_legal.true

pub returns : goal.returns
returns g c = makes_all _ _ c.may_choose.result c.args.peer.now c.loop-peer.peer c.loop-peer.invariant c.may_choose.ensures c.loop-peer-test.false
