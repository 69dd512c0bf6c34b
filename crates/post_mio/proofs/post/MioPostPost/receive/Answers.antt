use Rattle.std.proofs.Common.{List, sym, subst}
use Rattle.std.proofs.Math.Logic.{∥∥₁_map}
use Rattle.datagram_post.specs.Items.{Item}
use Rattle.post_mio.specs.Telling.{Tells}
use Rattle.post_mio.proofs.Told.{tells_received}
use Rattle.post_mio.proofs.post.MioPostPost.receive.Goals as goal

pub invariant_of-self : goal.invariant_of-self
invariant_of-self g c =
    let old = c.args.self.now in
    record { told = ∥∥₁_map old.told (λ t. subst (λ (x : List Item). Tells old.log c.receive-received.new.self.asks x) (sym c.receive.ensures) (tells_received old.mails.is_bound old.log c.receive-received.result c.receive-received.new.buf old.mails c.receive-received.new.self old.notes c.receive-received.ensures.receives t)) }
