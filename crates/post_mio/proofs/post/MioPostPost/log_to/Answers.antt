use Rattle.std.proofs.Common.{List, sym, subst}
use Rattle.std.proofs.Math.Logic.{∥∥₁_map}
use Rattle.datagram_post.specs.Items.{Item}
use Rattle.post_mio.specs.Telling.{Tells}
use Rattle.post_mio.proofs.Told.{tells_logs}
use Rattle.post_mio.proofs.post.MioPostPost.log_to.Goals as goal

pub invariant_of-self : goal.invariant_of-self
invariant_of-self g c =
    let old = c.args.self.now in
    record { told = ∥∥₁_map old.told (λ t. subst (λ (x : List Item). Tells c.begin.new.log c.begin.new.self.asks x) (sym c.log_to.ensures) (tells_logs c.args.name.now c.did_by-did.result old.log c.begin.new.log old.mails c.begin.new.self old.notes (record { is_done = c.begin.result; answer = c.did_by-did.ensures; asked = c.begin.ensures.asked; stands = c.begin.ensures.stands; same = c.begin.ensures.same }) t)) }
