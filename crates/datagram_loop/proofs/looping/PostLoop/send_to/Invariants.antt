use Rattle.datagram_loop.specs.Sending.{SendsAll}
use Rattle.datagram_loop.proofs.Sent.{sent_to}
use Rattle.datagram_loop.proofs.looping.PostLoop.send_to.Given as goal

abbrev pub invariant-loop-k : goal.invariant-loop-k
invariant-loop-k g l = SendsAll (sent_to l.self.peer.game l.self.peer.me l.self.peer.entries l.partner l.k) (g.D.Post.history l.fn.post) (g.D.Post.history l.post)
