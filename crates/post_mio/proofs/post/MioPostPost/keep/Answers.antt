use Rattle.std.proofs.Common.{List, sym, subst}
use Rattle.std.proofs.Math.Logic.{∥∥₁_map}
use Rattle.datagram_post.specs.Items.{Item}
use Rattle.post_mio.specs.Telling.{Tells}
use Rattle.post_mio.proofs.Told.{tells_keeps}
use Rattle.post_mio.proofs.post.MioPostPost.keep.Goals as goal

pub invariant_of-self : goal.invariant_of-self
invariant_of-self g c =
    let old = c.args.self.now in
    record { told = ∥∥₁_map old.told (λ t. subst (λ (x : List Item). Tells c.append.new.log c.append.new.self.asks x) (sym c.keep.ensures) (tells_keeps c.args.bytes.now c.did_by-did.result old.log c.append.new.log old.mails c.append.new.self old.notes (record { is_done = c.append.result; answer = c.did_by-did.ensures; asked = c.append.ensures.asked; stands = c.append.ensures.stands; same = c.append.ensures.same }) t)) }
