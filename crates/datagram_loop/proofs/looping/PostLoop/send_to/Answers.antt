use Rattle.std.proofs.Common.{arith}
use Rattle.definitions.specs.Honest.{made_count}
use Rattle.datagram_loop.proofs.Sent.{sends_none, sent_more, sent_all, few_of, from_few}
use Rattle.datagram_loop.proofs.looping.PostLoop.send_to.Goals as goal

pub loop-k-init : goal.loop-k-init
loop-k-init g c = sends_none _

pub own_at-frame-requires-clause-few : goal.own_at-frame-requires-clause-few
own_at-frame-requires-clause-few g c = few_of c.count_for-count.result c.loop-k.k (made_count c.args.self.now.peer.entries) c.args.partner.now c.count_for-count.ensures c.loop-k-test.true

pub own_at-frame-requires-clause-within : goal.own_at-frame-requires-clause-within
own_at-frame-requires-clause-within g c = from_few c.from_for-from.result (made_count c.args.self.now.peer.entries) c.args.partner.now c.from_for-from.ensures

pub loop-k-preserved : goal.loop-k-preserved
loop-k-preserved g c =
    sent_more c.args.self.now.peer.game c.args.self.now.peer.me c.args.self.now.peer.entries c.args.partner.now c.loop-k.k c.count_for-count.result c.from_for-from.result c.own_at-frame.result _ _ _ c.count_for-count.ensures c.from_for-from.ensures c.loop-k-test.true c.own_at-frame.ensures c.loop-k.invariant c.send_one.ensures

pub returns : goal.returns
returns g c = sent_all c.args.self.now.peer.game c.args.self.now.peer.me c.args.self.now.peer.entries c.args.partner.now c.loop-k.k _ _ (let e = c.loop-k.auto.k-end in let t = c.loop-k-test.false in let n = c.count_for-count.ensures in omega (arith, e, t, n)) c.loop-k.invariant
