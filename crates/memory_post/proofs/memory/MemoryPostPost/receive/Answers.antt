use Rattle.std.proofs.Common.{List, sym, ap, ◌∙◌, arith}
use Rattle.datagram_post.specs.Items.{Item, receive_item}
use Rattle.datagram_post.specs.Moved.{given_in, kept_in}
use Rattle.memory_post.specs.HeldPosts.{is_begun}
use Rattle.memory_post.proofs.Histories.{receive-given, receive-kept, receive-begun, charged-items, charged-bytes, charged-calls}
use Rattle.memory_post.proofs.memory.MemoryPostPost.receive.Goals as goal

pub invariant_of-self : goal.invariant_of-self
invariant_of-self c =
    let b = c.self.inside in
    let i = c.self.invariant in
    let r = c.receive-received.result in
    let buf = c.receive-received.new.buf in
    let told = c.receive.ensures in
    let items = charged-items c.front_size.result b.ledger c.charge-goes.new.self c.charge-goes.ensures.ledger in
    let bytes = charged-bytes c.front_size.result b.ledger c.charge-goes.new.self c.charge-goes.ensures.ledger in
    let a = i.told in
    let d = i.mail_items in
    let e = i.mail_bytes in
    let f = i.kept_bytes in
    record {
      calls = charged-calls c.front_size.result b.ledger c.charge-goes.new.self b.notes c.receive.new.self (receive_item r buf) c.charge-goes.ensures.ledger i.calls told;
      mails = i.mails ∙ sym (ap (λ (h : List Item). given_in h) told ∙ receive-given b.notes r buf);
      kept = i.kept ∙ sym (ap (λ (h : List Item). kept_in h) told ∙ receive-kept b.notes r buf);
      begun = i.begun ∙ sym (ap (λ (h : List Item). is_begun h) told ∙ receive-begun b.notes r buf);
      told = omega (arith, a, items);
      few = i.few;
      mail_items = omega (arith, d, items);
      mail_bytes = omega (arith, e, bytes);
      kept_bytes = omega (arith, f, bytes);
    }
