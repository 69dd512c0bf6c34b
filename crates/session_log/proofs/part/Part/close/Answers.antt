use Rattle.std.proofs.Common.{Bool, List, ap, sym, ℕ, ◌+◌, ◌∙◌, false, arith}
use Rattle.session_log.specs.declared.finding.Found.TheVariants.{Whole}
use Rattle.session_log.specs.declared.part.Part.{Part}
use Rattle.session_log.specs.Finding.{owned_as}
use Rattle.session_log.proofs.Parts.{by_digest, has_come, next_held, read_whole, too_long}
use Rattle.session_log.proofs.part.Part.close.Goals as goal

pub returns-then-not-same_digest-clause-found : goal.returns-then-not-same_digest-clause-found
returns-then-not-same_digest-clause-found c = λ chain held part.
    by_digest c.args.session.now c.args.owner c.args.self.now c.hash-hash.new.self chain held c.hash-hash.result c.same_digest.result false
    (has_come c.args.session.now c.args.owner c.args.self.now chain held (omega arith) c.requires.whole (part.begun c.requires.begun))
    (record { hashed = c.hash-hash.ensures.hash; others = c.hash-hash.ensures.others; compared = c.same_digest.ensures }) c.if-not-same_digest.true

pub returns-then-not-same_digest-clause-part : goal.returns-then-not-same_digest-clause-part
returns-then-not-same_digest-clause-part c = λ chain held part.
    next_held c.args.session.now c.args.owner c.args.self.now c.hash-hash.new.self chain held
    (has_come c.args.session.now c.args.owner c.args.self.now chain held (omega arith) c.requires.whole (part.begun c.requires.begun)) c.hash-hash.ensures.others

pub returns-then-text_len-gt64-clause-found : goal.returns-then-text_len-gt64-clause-found
returns-then-text_len-gt64-clause-found c = λ chain held part.
    too_long c.args.session.now c.args.owner c.args.self.now c.hash-hash.new.self chain held c.hash-hash.result c.same_digest.result
    (has_come c.args.session.now c.args.owner c.args.self.now chain held (omega arith) c.requires.whole (part.begun c.requires.begun))
    (record { hashed = c.hash-hash.ensures.hash; others = c.hash-hash.ensures.others; compared = c.same_digest.ensures }) c.if-not-same_digest.false (omega arith)

pub returns-then-text_len-gt64-clause-part : goal.returns-then-text_len-gt64-clause-part
returns-then-text_len-gt64-clause-part c = λ chain held part.
    next_held c.args.session.now c.args.owner c.args.self.now c.hash-hash.new.self chain held
    (has_come c.args.session.now c.args.owner c.args.self.now chain held (omega arith) c.requires.whole (part.begun c.requires.begun)) c.hash-hash.ensures.others

pub returns-then-read_owned-clause-found : goal.returns-then-read_owned-clause-found
returns-then-read_owned-clause-found c = λ chain held part.
    let p = c.args.self.now in
    let q = c.hash-hash.new.self in
    let count : ℕ = p.text_len + 32 in
    ap (λ (d : List ℕ). Whole c.read_owned.new.out count d) (sym (ap (λ (r : Part). r.digest) c.hash-hash.ensures.others))
    ∙ sym (c.read_owned.ensures count q.digest ∙ ap (λ (b : Bool). owned_as b c.read_owned.new.out count q.digest) c.if-read_owned.true)
    ∙ read_whole c.args.session.now c.args.owner p q chain held c.hash-hash.result c.same_digest.result
    (has_come c.args.session.now c.args.owner p chain held (omega arith) c.requires.whole (part.begun c.requires.begun))
    (record { hashed = c.hash-hash.ensures.hash; others = c.hash-hash.ensures.others; compared = c.same_digest.ensures }) c.if-not-same_digest.false (omega arith)

pub returns-then-read_owned-clause-part : goal.returns-then-read_owned-clause-part
returns-then-read_owned-clause-part c = λ chain held part.
    next_held c.args.session.now c.args.owner c.args.self.now c.hash-hash.new.self chain held
    (has_come c.args.session.now c.args.owner c.args.self.now chain held (omega arith) c.requires.whole (part.begun c.requires.begun)) c.hash-hash.ensures.others

pub returns-else-read_owned-clause-found : goal.returns-else-read_owned-clause-found
returns-else-read_owned-clause-found c = λ chain held part.
    let p = c.args.self.now in
    let q = c.hash-hash.new.self in
    let count : ℕ = p.text_len + 32 in
    sym (c.read_owned.ensures count q.digest ∙ ap (λ (b : Bool). owned_as b c.read_owned.new.out count q.digest) c.if-read_owned.false)
    ∙ read_whole c.args.session.now c.args.owner p q chain held c.hash-hash.result c.same_digest.result
    (has_come c.args.session.now c.args.owner p chain held (omega arith) c.requires.whole (part.begun c.requires.begun))
    (record { hashed = c.hash-hash.ensures.hash; others = c.hash-hash.ensures.others; compared = c.same_digest.ensures }) c.if-not-same_digest.false (omega arith)

pub returns-else-read_owned-clause-part : goal.returns-else-read_owned-clause-part
returns-else-read_owned-clause-part c = λ chain held part.
    next_held c.args.session.now c.args.owner c.args.self.now c.hash-hash.new.self chain held
    (has_come c.args.session.now c.args.owner c.args.self.now chain held (omega arith) c.requires.whole (part.begun c.requires.begun)) c.hash-hash.ensures.others
