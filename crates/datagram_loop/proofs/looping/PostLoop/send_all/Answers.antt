use Rattle.std.proofs.Common.{arith}
use Rattle.datagram_loop.proofs.Sent.{sends_none, batch_more, batch_all, lt_by}
use Rattle.datagram_loop.proofs.looping.PostLoop.send_all.Goals as goal

pub loop-place-init : goal.loop-place-init
loop-place-init g c = sends_none _

pub partner_at-partner-requires : goal.partner_at-partner-requires
partner_at-partner-requires g c = lt_by c.loop-place.place c.others-place-end.result c.args.self.now.partners c.others-place-end.ensures c.loop-place-test.true

pub loop-place-preserved : goal.loop-place-preserved
loop-place-preserved g c =
    batch_more c.args.self.now.peer.game c.args.self.now.peer.me c.args.self.now.peer.entries c.args.self.now.partners c.loop-place.place c.partner_at-partner.result _ _ _
    (lt_by c.loop-place.place c.others-place-end.result c.args.self.now.partners c.others-place-end.ensures c.loop-place-test.true) c.partner_at-partner.ensures.at c.loop-place.invariant c.send_to.ensures

pub returns : goal.returns
returns g c = batch_all c.args.self.now.peer.game c.args.self.now.peer.me c.args.self.now.peer.entries c.args.self.now.partners c.loop-place.place _ _ (let e = c.loop-place.auto.place-end in let t = c.loop-place-test.false in let n = c.others-place-end.ensures in omega (arith, e, t, n)) c.loop-place.invariant
