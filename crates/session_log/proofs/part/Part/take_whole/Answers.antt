use Rattle.std.proofs.Common.{Bool, List, ap, drop, false, sym, take, true, ℕ, ◌+◌, ◌∙◌}
use Rattle.session_log.specs.Entries.{entry_of, told_len}
use Rattle.session_log.specs.Finding.{digest_at, owned_as, owned_by}
use Rattle.session_log.specs.Spelling.{chained}
use Rattle.session_log.proofs.Parts.{fresh_holds, whole_met}
use Rattle.session_log.proofs.part.Part.take_whole.Goals as goal

pub returns-then-not-same_digest-clause-found : goal.returns-then-not-same_digest-clause-found
returns-then-not-same_digest-clause-found c = λ chain part.
    whole_met c.args.session.now c.args.owner chain c.args.bytes.now c.hash_front-hash.result c.digest_at-self.result c.same_digest.result false c.requires.whole
    (c.hash_front-hash.ensures ∙ ap (λ (d : List ℕ). chained d (take (c.told_len-end.result + 3) c.args.bytes.now)) (part.fresh c.requires.fresh).chained
    ∙ ap (λ (n : ℕ). chained chain (take (n + 3) c.args.bytes.now)) c.told_len-end.ensures.told)
    (c.digest_at-self.ensures ∙ ap (λ (n : ℕ). take 32 (drop (n + 3) c.args.bytes.now)) c.told_len-end.ensures.told) c.same_digest.ensures c.if-not-same_digest.true

pub returns-then-not-same_digest-clause-part : goal.returns-then-not-same_digest-clause-part
returns-then-not-same_digest-clause-part c = λ chain part.
    let is = part.fresh c.requires.fresh in
    fresh_holds _ _ c.requires.fresh (c.digest_at-self.ensures ∙ ap (λ (n : ℕ). take 32 (drop (n + 3) c.args.bytes.now)) c.told_len-end.ensures.told) is.text_len is.digest_len

pub returns-then-read_owned-clause-found : goal.returns-then-read_owned-clause-found
returns-then-read_owned-clause-found c = λ chain part.
    let count : ℕ = told_len c.args.bytes.now + 35 in
    let digest : List ℕ = digest_at c.args.bytes.now in
    let owned = ap (λ (n : ℕ). owned_by c.args.session.now c.args.owner (entry_of (take (n + 3) c.args.bytes.now)) count digest) (sym c.told_len-end.ensures.told)
    ∙ c.read_owned.ensures count digest ∙ ap (λ (b : Bool). owned_as b c.read_owned.new.out count digest) c.if-read_owned.true in
    sym owned ∙ whole_met c.args.session.now c.args.owner chain c.args.bytes.now c.hash_front-hash.result c.digest_at-self.result c.same_digest.result true c.requires.whole
    (c.hash_front-hash.ensures ∙ ap (λ (d : List ℕ). chained d (take (c.told_len-end.result + 3) c.args.bytes.now)) (part.fresh c.requires.fresh).chained
    ∙ ap (λ (n : ℕ). chained chain (take (n + 3) c.args.bytes.now)) c.told_len-end.ensures.told)
    (c.digest_at-self.ensures ∙ ap (λ (n : ℕ). take 32 (drop (n + 3) c.args.bytes.now)) c.told_len-end.ensures.told) c.same_digest.ensures c.if-not-same_digest.false

pub returns-then-read_owned-clause-part : goal.returns-then-read_owned-clause-part
returns-then-read_owned-clause-part c = λ chain part.
    let is = part.fresh c.requires.fresh in
    fresh_holds _ _ c.requires.fresh (c.digest_at-self.ensures ∙ ap (λ (n : ℕ). take 32 (drop (n + 3) c.args.bytes.now)) c.told_len-end.ensures.told) is.text_len is.digest_len

pub returns-else-read_owned-clause-found : goal.returns-else-read_owned-clause-found
returns-else-read_owned-clause-found c = λ chain part.
    let count : ℕ = told_len c.args.bytes.now + 35 in
    let digest : List ℕ = digest_at c.args.bytes.now in
    let owned = ap (λ (n : ℕ). owned_by c.args.session.now c.args.owner (entry_of (take (n + 3) c.args.bytes.now)) count digest) (sym c.told_len-end.ensures.told)
    ∙ c.read_owned.ensures count digest ∙ ap (λ (b : Bool). owned_as b c.read_owned.new.out count digest) c.if-read_owned.false in
    sym owned ∙ whole_met c.args.session.now c.args.owner chain c.args.bytes.now c.hash_front-hash.result c.digest_at-self.result c.same_digest.result true c.requires.whole
    (c.hash_front-hash.ensures ∙ ap (λ (d : List ℕ). chained d (take (c.told_len-end.result + 3) c.args.bytes.now)) (part.fresh c.requires.fresh).chained
    ∙ ap (λ (n : ℕ). chained chain (take (n + 3) c.args.bytes.now)) c.told_len-end.ensures.told)
    (c.digest_at-self.ensures ∙ ap (λ (n : ℕ). take 32 (drop (n + 3) c.args.bytes.now)) c.told_len-end.ensures.told) c.same_digest.ensures c.if-not-same_digest.false

pub returns-else-read_owned-clause-part : goal.returns-else-read_owned-clause-part
returns-else-read_owned-clause-part c = λ chain part.
    let is = part.fresh c.requires.fresh in
    fresh_holds _ _ c.requires.fresh (c.digest_at-self.ensures ∙ ap (λ (n : ℕ). take 32 (drop (n + 3) c.args.bytes.now)) c.told_len-end.ensures.told) is.text_len is.digest_len
