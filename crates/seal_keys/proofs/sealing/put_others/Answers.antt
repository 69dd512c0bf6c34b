use Rattle.std.proofs.Common.{ℕ, ◌+◌, ◌-◌, ◌*◌, ◌∙◌, take, ap, arith, sym, length}
use Rattle.seal_keys.specs.Keys.{public_value}
use Rattle.seal_keys.specs.Seals.{other_public}
use Rattle.seal_keys.proofs.Digests.{length-public_value}
use Rattle.seal_keys.proofs.Parts.{joined_below-none, written_more}
use Rattle.seal_keys.proofs.sealing.put_others.Goals as goal

pub loop-i-init : goal.loop-i-init
loop-i-init c = sym (joined_below-none (other_public c.args.seed.now c.args.place c.args.message.now))

pub loop-i-preserved : goal.loop-i-preserved
loop-i-preserved c =
    let f = other_public c.args.seed.now c.args.place c.args.message.now in
    let part = c.public_value-value.ensures ∙ ap (λ (b : ℕ). public_value c.args.seed.now c.args.place c.loop-i.i (1 - b)) c.bit_of.ensures.value in
    ap (take (32 * (c.loop-i.i + 1))) c.put_slice.ensures
    ∙ written_more f c.loop-i.out c.public_value-value.result c.loop-i.i c.loop-i.invariant part (ap length part ∙ length-public_value _ _ _ _) (omega arith)
