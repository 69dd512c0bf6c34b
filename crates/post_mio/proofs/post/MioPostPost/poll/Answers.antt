use Rattle.std.proofs.Common.{List, sym, subst}
use Rattle.std.proofs.Math.Logic.{∥∥₁_map}
use Rattle.datagram_post.specs.Items.{Item}
use Rattle.post_mio.specs.Telling.{Tells}
use Rattle.post_mio.proofs.Told.{tells_polled}
use Rattle.post_mio.proofs.post.MioPostPost.poll.Goals as goal

pub invariant_of-self : goal.invariant_of-self
invariant_of-self g c =
    let old = c.args.self.now in
    record { told = ∥∥₁_map old.told (λ t. subst (λ (x : List Item). Tells old.log c.poll.new.self.asks x) (sym c.poll-2.ensures) (tells_polled old.mails.is_bound old.log c.poll.result c.did_by-did.result old.mails c.poll.new.self old.notes c.poll.ensures t)) }
