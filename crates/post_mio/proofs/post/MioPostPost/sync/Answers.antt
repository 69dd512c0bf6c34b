use Rattle.std.proofs.Common.{List, sym, subst}
use Rattle.std.proofs.Math.Logic.{∥∥₁_map}
use Rattle.datagram_post.specs.Items.{Item}
use Rattle.post_mio.specs.Telling.{Tells}
use Rattle.post_mio.proofs.Told.{tells_syncs}
use Rattle.post_mio.proofs.post.MioPostPost.sync.Goals as goal

pub invariant_of-self : goal.invariant_of-self
invariant_of-self g c =
    let old = c.args.self.now in
    record { told = ∥∥₁_map old.told (λ t. subst (λ (x : List Item). Tells c.sync.new.log c.sync.new.self.asks x) (sym c.sync-2.ensures) (tells_syncs c.did_by-did.result old.log c.sync.new.log old.mails c.sync.new.self old.notes (record { is_done = c.sync.result; answer = c.did_by-did.ensures; asked = c.sync.ensures.asked; stands = c.sync.ensures.stands; same = c.sync.ensures.same }) t)) }
