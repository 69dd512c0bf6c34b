use Rattle.std.proofs.Common.{◌≡◌, ◌++◌, ◌∷◌, [], Bool, List, length, sym, ap, ◌∙◌, arith}
use Rattle.std.specs.Prelude.{◌&&◌, ◌||◌, not}
use Rattle.datagram_post.specs.Items.{Item, did_by, log_item}
use Rattle.datagram_post.specs.Moved.{given_in, kept_in}
use Rattle.socket_station.specs.declared.answers.Did.{Did}
use Rattle.memory_post.specs.HeldPosts.{is_begun}
use Rattle.memory_post.proofs.Histories.{log-given, log-kept, log-begun, charged-items, charged-bytes, charged-calls}
use Rattle.memory_post.proofs.memory.MemoryPostPost.log_to.Goals as goal

pub invariant_of-self : goal.invariant_of-self
invariant_of-self c =
    let b = c.self.inside in
    let i = c.self.invariant in
    let name = c.args.name.now in
    let g = c.charge-goes.result in
    let is : c.log_to.new.self ≡ b.notes ++ log_item (did_by (g && not (is_begun b.notes))) name ∷ [] =
    c.log_to.ensures ∙ ap (λ (d : Did). b.notes ++ log_item d name ∷ []) (c.did-did.ensures ∙ ap (λ (x : Bool). did_by (g && not x)) i.begun) in
    let items = charged-items (length name) b.ledger c.charge-goes.new.self c.charge-goes.ensures.ledger in
    let bytes = charged-bytes (length name) b.ledger c.charge-goes.new.self c.charge-goes.ensures.ledger in
    let a = i.told in
    let d = i.mail_items in
    let e = i.mail_bytes in
    let f = i.kept_bytes in
    record {
      calls = charged-calls (length name) b.ledger c.charge-goes.new.self b.notes c.log_to.new.self (log_item c.did-did.result name) c.charge-goes.ensures.ledger i.calls c.log_to.ensures;
      mails = i.mails ∙ sym (ap (λ (h : List Item). given_in h) is ∙ log-given b.notes (g && not (is_begun b.notes)) name);
      kept = i.kept ∙ sym (ap (λ (h : List Item). kept_in h) is ∙ log-kept b.notes (g && not (is_begun b.notes)) name);
      begun = ap (λ (x : Bool). x || g) i.begun ∙ sym (ap (λ (h : List Item). is_begun h) is ∙ log-begun b.notes g name);
      told = omega (arith, a, items);
      few = i.few;
      mail_items = omega (arith, d, items);
      mail_bytes = omega (arith, e, bytes);
      kept_bytes = omega (arith, f, bytes);
    }
