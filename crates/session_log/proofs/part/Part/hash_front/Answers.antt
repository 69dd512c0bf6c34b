use Rattle.std.proofs.Common.{ap, sym, ◌∙◌, ◌≡◌, take}
use Rattle.std.proofs.lemmas.Slice.Eq.{bytes_eq-Decides}
use Rattle.sha2.specs.Sha256.{sha256}
use Rattle.session_log.proofs.Parts.{joined_room, joined_text}
use Rattle.session_log.proofs.part.Part.hash_front.Goals as goal

pub slice_bounds-digest-end : goal.slice_bounds-digest-end
slice_bounds-digest-end c = joined_room c.args.joined.now c.args.bytes.now c.args.end c.if-joined-ge32.true (c.requires.joined c.if-joined-ge32.true) c.requires.end

pub returns-then-same_digest : goal.returns-then-same_digest
returns-then-same_digest c =
    let before : take 32 c.args.joined.now ≡ c.args.self.now.digest =
    sym c.digest_at.ensures ∙ (bytes_eq-Decides c.digest_at.result c.args.self.now.digest).0 (sym c.same_digest.ensures ∙ c.if-same_digest.true) in
    c.digest.ensures ∙ ap sha256 (joined_text c.args.joined.now c.args.bytes.now c.args.self.now.digest c.args.end (c.requires.joined c.if-joined-ge32.true) before)
