use Rattle.std.proofs.Common.{◌+◌, ◌*◌, ◌∙◌, take, ap, arith, sym, length}
use Rattle.seal_keys.specs.Keys.{secret}
use Rattle.seal_keys.specs.Seals.{disclosed}
use Rattle.seal_keys.proofs.Digests.{length-secret}
use Rattle.seal_keys.proofs.Parts.{joined_below-none, written_more}
use Rattle.seal_keys.proofs.sealing.put_disclosed.Goals as goal

pub loop-i-init : goal.loop-i-init
loop-i-init c = sym (joined_below-none (disclosed c.args.seed.now c.args.place c.args.message.now))

pub loop-i-preserved : goal.loop-i-preserved
loop-i-preserved c =
    let f = disclosed c.args.seed.now c.args.place c.args.message.now in
    let part = c.secret-value.ensures ∙ ap (secret c.args.seed.now c.args.place c.loop-i.i) c.bit_of.ensures.value in
    ap (take (32 * (c.loop-i.i + 1))) c.put_slice.ensures
    ∙ written_more f c.loop-i.out c.secret-value.result c.loop-i.i c.loop-i.invariant part (ap length part ∙ length-secret _ _ _ _) (omega arith)
