use Rattle.std.proofs.Common.{List, ℕ, ◌++◌, ◌∙◌, ap, arith, subst, sym, ◌≡◌}
use Rattle.sha2.specs.Hashers.{Holds256}
use Rattle.seal_keys.specs.Keys.{public_pair, publics}
use Rattle.seal_keys.specs.Parts.{joined_below}
use Rattle.seal_keys.proofs.Parts.{joined_below-more, joined_below-none}
use Rattle.seal_keys.proofs.values.digest_of_publics.Goals as goal

pub loop-bit-init : goal.loop-bit-init
loop-bit-init c = subst (Holds256 c.new-hasher.result) (sym (joined_below-none (public_pair c.args.seed.now c.args.place))) c.new-hasher.ensures

pub loop-bit-preserved : goal.loop-bit-preserved
loop-bit-preserved c =
    let f = public_pair c.args.seed.now c.args.place in
    let pair = c.as_slice.ensures ∙ c.public_pair.ensures in
    subst (Holds256 c.update.new.self) (ap (λ (p : List ℕ). joined_below f c.loop-bit.bit ++ p) pair ∙ sym (joined_below-more f c.loop-bit.bit)) (c.update.ensures (joined_below f c.loop-bit.bit) c.loop-bit.invariant)

pub returns : goal.returns
unfolding publics
returns c =
    let all : c.loop-bit.bit ≡ 256 = omega arith in
    let f : ℕ → List ℕ = public_pair c.args.seed.now c.args.place in
    c.finalize.ensures (publics c.args.seed.now c.args.place) (subst (λ (n : ℕ). Holds256 c.loop-bit.hasher (joined_below f n)) all c.loop-bit.invariant)
