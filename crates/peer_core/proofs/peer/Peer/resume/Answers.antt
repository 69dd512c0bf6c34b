use Rattle.std.proofs.Common.{◌<◌, ◌^◌, arith, rules}
use Rattle.peer_core.proofs.Replaying.{breach_first, breach_is, few_replayed, has_replayed, refused_at}
use Rattle.peer_core.proofs.peer.Peer.resume.Goals as goal

pub overflow_cast-result : goal.overflow_cast-result
overflow_cast-result c =
    let few : c.loop-i.i < 2 ^ 32 = few_replayed c.args.session.now c.args.me c.loop-i.i c.args.entries.now c.facts.ensures c.requires.player (omega arith) c.loop-i.invariant.honest in
    search rules

pub returns-then-not-replay-clause-exact : goal.returns-then-not-replay-clause-exact
returns-then-not-replay-clause-exact c =
    breach_is c.args.session.now c.args.me c.loop-i.i c.args.entries.now _ c.loop-i-test.true c.loop-i.invariant.honest
    (refused_at _ _ _ c.loop-i.peer _ c.replay.result c.loop-i.invariant.state c.replay.ensures.allowed c.if-not-replay.true)

pub returns-then-not-replay-clause-first : goal.returns-then-not-replay-clause-first
returns-then-not-replay-clause-first c =
    breach_first c.args.session.now c.args.me c.loop-i.i c.args.entries.now _ c.loop-i-test.true c.loop-i.invariant.honest
    (refused_at _ _ _ c.loop-i.peer _ c.replay.result c.loop-i.invariant.state c.replay.ensures.allowed c.if-not-replay.true)

pub returns-clause-exact : goal.returns-clause-exact
returns-clause-exact c = has_replayed c.args.session.now c.args.me c.loop-i.i c.args.entries.now c.loop-i.peer c.loop-i.auto.i-end c.loop-i-test.false c.loop-i.invariant.state c.loop-i.invariant.honest
