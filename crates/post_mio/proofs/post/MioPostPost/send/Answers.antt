use Rattle.std.proofs.Common.{List, sym, subst}
use Rattle.std.proofs.Math.Logic.{∥∥₁_map}
use Rattle.datagram_post.specs.Items.{Item}
use Rattle.post_mio.specs.Telling.{Tells}
use Rattle.post_mio.proofs.Told.{tells_sent}
use Rattle.post_mio.proofs.post.MioPostPost.send.Goals as goal

pub invariant_of-self : goal.invariant_of-self
invariant_of-self g c =
    let old = c.args.self.now in
    record { told = ∥∥₁_map old.told (λ t. subst (λ (x : List Item). Tells old.log c.send-sent.new.self.asks x) (sym c.send.ensures) (tells_sent old.mails.is_bound old.log c.args.addr c.send-sent.result c.args.bytes.now old.mails c.send-sent.new.self old.notes c.send-sent.ensures t)) }
