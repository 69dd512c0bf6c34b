use Rattle.std.proofs.Common.{rules, ◌≡◌, ◌+◌, ◌<◌, ◌≤◌, ℕ, List, length, map, ap, sym, subst, ◌∙◌, arith, take, drop}
use Rattle.std.specs.Prelude.{Some, slice_get}
use Rattle.datagram_post.specs.Moved.{Mail}
use Rattle.memory_post.specs.declared.mails.Part.{Part}
use Rattle.memory_post.specs.HeldMails.{HeldMails, mail_of}
use Rattle.memory_post.proofs.Parts.{within-at, mail-at, few-parts}
use Rattle.memory_post.proofs.mails.Mails.bytes.Goals as goal

pub part_bytes-requires : goal.part_bytes-requires
part_bytes-requires c =
    let parts = c.self.inside.parts.items in
    let bytes = c.self.inside.bytes.items in
    let r = c.requires in
    let a = ap (λ (s : HeldMails). length s.all) c.self.view_is in
    let n = few-parts bytes parts in
    let lt : c.args.place < length parts = omega (arith, r, a, n) in
    let same : c.as_slice.result.now ≡ bytes = search rules in
    subst (λ (bs : List ℕ). c.index.result.now.at + c.index.result.now.len ≤ length bs) (sym same)
    (subst (λ (p : Part). p.at + p.len ≤ length bytes) (sym c.index.ensures) (within-at (length bytes) parts c.args.place c.index.result.now c.self.invariant lt))

pub returns : goal.returns
returns c m there =
    let parts = c.self.inside.parts.items in
    let bytes = c.self.inside.bytes.items in
    let r = c.requires in
    let a = ap (λ (s : HeldMails). length s.all) c.self.view_is in
    let n = few-parts bytes parts in
    let lt : c.args.place < length parts = omega (arith, r, a, n) in
    let same : c.as_slice.result.now ≡ bytes = search rules in
    let view : slice_get (map (mail_of bytes) parts) c.args.place ≡ Some m = subst (λ (s : HeldMails). slice_get s.all c.args.place ≡ Some m) (sym c.self.view_is) there in
    c.part_bytes.ensures
    ∙ ap (λ (bs : List ℕ). take c.index.result.now.len (drop c.index.result.now.at bs)) same
    ∙ ap (λ (p : Part). take p.len (drop p.at bytes)) c.index.ensures
    ∙ ap (λ (x : Mail). x.bytes) (mail-at bytes parts c.args.place c.index.result.now m lt view)
