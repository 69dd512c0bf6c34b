use Rattle.std.proofs.Common.{arith, drop}
use Rattle.std.proofs.lemmas.List.{length-drop, take_rest}
use Rattle.accuser.proofs.Taken.{few_left, front_none, front_over, front_stuck, front_took, leaves_all, leaves_on, none_asked, took_within}
use Rattle.accuser.proofs.taker.take_front.Goals as goal

pub frames-init : goal.frames-init
frames-init c = record {
  within = omega arith;
  front = front_none c.args.session.now c.args.roots.now c.args.file c.args.bytes.now c.args.taker.now;
  leaves = leaves_all c.args.session.now c.args.taker.now c.args.file c.requires.of_session;
}

pub take_next-requires-clause-few : goal.take_next-requires-clause-few
take_next-requires-clause-few c =
    few_left c.args.session.now c.args.roots.now c.args.file c.args.bytes.now c.args.taker.now c.frames.taker c.frames.at c.frames.invariant.front c.frames-test.true c.requires.few

pub take_next-requires-clause-of_session : goal.take_next-requires-clause-of_session
take_next-requires-clause-of_session c = c.frames.invariant.leaves.of_session

pub overflow_add-at : goal.overflow_add-at
overflow_add-at c =
    let took = took_within c.args.session.now c.args.roots.now c.frames.taker c.take_next.new.taker c.args.file c.args.last c.args.bytes.now c.frames.at _ c.in-Took.count (take_rest c.args.bytes.now c.frames.at) c.in-Took.ensures.so in
    let few = c.requires.few in
    let within = c.frames-test.true in
    omega (arith, took, few, within)

pub frames-preserved : goal.frames-preserved
frames-preserved c =
    let rest = take_rest c.args.bytes.now c.frames.at in
    record {
      within = let took = took_within c.args.session.now c.args.roots.now c.frames.taker c.take_next.new.taker c.args.file c.args.last c.args.bytes.now c.frames.at _ c.in-Took.count rest c.in-Took.ensures.so in let within = c.frames-test.true in omega (arith, took, within);
      front = front_took c.args.session.now c.args.roots.now c.args.file c.args.bytes.now c.args.taker.now c.frames.taker c.take_next.new.taker c.args.last c.frames.at _ c.in-Took.count rest c.frames.invariant.front c.in-Took.ensures.so;
      leaves = leaves_on c.args.session.now c.args.taker.now c.frames.taker c.take_next.new.taker c.args.file c.frames.invariant.leaves c.in-Took.ensures.leaves;
    }

pub returns-in-Over-clause-ok : goal.returns-in-Over-clause-ok
returns-in-Over-clause-ok c =
    front_over c.args.session.now c.args.roots.now c.args.file c.args.bytes.now c.args.taker.now c.frames.taker c.take_next.new.taker c.args.last c.frames.at _ (take_rest c.args.bytes.now c.frames.at)
    c.frames.invariant.within c.frames.invariant.front c.in-Over.ensures.so

pub returns-in-Over-clause-leaves : goal.returns-in-Over-clause-leaves
returns-in-Over-clause-leaves c = leaves_on c.args.session.now c.args.taker.now c.frames.taker c.take_next.new.taker c.args.file c.frames.invariant.leaves c.in-Over.ensures.leaves

pub returns-in-Stuck-clause-bad : goal.returns-in-Stuck-clause-bad
returns-in-Stuck-clause-bad c =
    front_stuck c.args.session.now c.args.roots.now c.args.file c.args.bytes.now c.args.taker.now c.frames.taker c.take_next.new.taker c.args.last c.frames.at _ (take_rest c.args.bytes.now c.frames.at)
    c.frames.invariant.within c.frames.invariant.front c.in-Stuck.ensures.so

pub returns-in-Stuck-clause-leaves : goal.returns-in-Stuck-clause-leaves
returns-in-Stuck-clause-leaves c = leaves_on c.args.session.now c.args.taker.now c.frames.taker c.take_next.new.taker c.args.file c.frames.invariant.leaves c.in-Stuck.ensures.leaves

pub returns-in-Memory-clause-leaves : goal.returns-in-Memory-clause-leaves
returns-in-Memory-clause-leaves c = leaves_on c.args.session.now c.args.taker.now c.frames.taker c.take_next.new.taker c.args.file c.frames.invariant.leaves c.in-Memory.ensures.leaves

pub returns-clause-ok : goal.returns-clause-ok
returns-clause-ok c = record {
  within = c.frames.invariant.within;
  front = c.frames.invariant.front;
  over = none_asked c.args.session.now c.args.last (drop c.frames.at c.args.bytes.now) (let long = length-drop c.frames.at c.args.bytes.now in let end = c.frames-test.false in omega (arith, long, end));
}

pub returns-clause-leaves : goal.returns-clause-leaves
returns-clause-leaves c = c.frames.invariant.leaves
