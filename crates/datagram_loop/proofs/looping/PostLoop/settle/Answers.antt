use Rattle.datagram_loop.proofs.Settles.{received_running, settles_unkept, settles_own, settles_on, settles_caught, settles_serving, settles_sent}
use Rattle.datagram_loop.proofs.looping.PostLoop.settle.Goals as goal

pub keep_new-requires-clause-running : goal.keep_new-requires-clause-running
keep_new-requires-clause-running g c = received_running _ _ c.receive_all-made.result _ _ c.args.self.now c.receive_all-made.new.self c.requires.ready c.receive_all-made.ensures

pub keep_new-requires-clause-made : goal.keep_new-requires-clause-made
keep_new-requires-clause-made g c = c.receive_all-made.ensures.still

pub returns-then-not-keep_new : goal.returns-then-not-keep_new
returns-then-not-keep_new g c = settles_unkept c.keep_new.result _ _ c.receive_all-made.result _ _ _ c.args.self.now c.receive_all-made.new.self c.keep_new.new.self c.receive_all-made.ensures c.keep_new.ensures c.if-not-keep_new.true

pub returns-in-Some : goal.returns-in-Some
returns-in-Some g c = settles_own c.keep_new.result _ _ c.receive_all-made.result _ _ _ c.args.self.now c.receive_all-made.new.self c.keep_new.new.self c.own_move.result c.in-Some.settled c.receive_all-made.ensures c.keep_new.ensures c.if-not-keep_new.false c.own_move.ensures c.in-Some.is

pub returns-in-Some-finding : goal.returns-in-Some-finding
returns-in-Some-finding g c = settles_caught _ _ _ _ _ c.args.self.now c.receive_all-made.new.self c.keep_new.new.self c.finding.result c.in-Some-finding.finding
    (settles_on c.keep_new.result _ _ c.receive_all-made.result _ _ _ c.args.self.now c.receive_all-made.new.self c.keep_new.new.self c.own_move.result c.receive_all-made.ensures c.keep_new.ensures c.if-not-keep_new.false c.own_move.ensures c.in_default.is)
    c.finding.ensures.first c.in-Some-finding.is

pub serve-requires : goal.serve-requires
serve-requires g c = settles_serving _ _ _ _ _ c.args.self.now c.receive_all-made.new.self c.keep_new.new.self c.finding.result
    (settles_on c.keep_new.result _ _ c.receive_all-made.result _ _ _ c.args.self.now c.receive_all-made.new.self c.keep_new.new.self c.own_move.result c.receive_all-made.ensures c.keep_new.ensures c.if-not-keep_new.false c.own_move.ensures c.in_default.is)
    c.finding.ensures.clean c.in_default-finding.is

pub returns : goal.returns
returns g c =
    settles_sent _ _ _ _ _ _ c.args.self.now c.receive_all-made.new.self c.keep_new.new.self c.serve.result
    (settles_on c.keep_new.result _ _ c.receive_all-made.result _ _ _ c.args.self.now c.receive_all-made.new.self c.keep_new.new.self c.own_move.result c.receive_all-made.ensures c.keep_new.ensures c.if-not-keep_new.false c.own_move.ensures c.in_default.is)
    (settles_serving _ _ _ _ _ c.args.self.now c.receive_all-made.new.self c.keep_new.new.self c.finding.result
    (settles_on c.keep_new.result _ _ c.receive_all-made.result _ _ _ c.args.self.now c.receive_all-made.new.self c.keep_new.new.self c.own_move.result c.receive_all-made.ensures c.keep_new.ensures c.if-not-keep_new.false c.own_move.ensures c.in_default.is)
    c.finding.ensures.clean c.in_default-finding.is) c.serve.ensures
