use Rattle.std.proofs.Common.{ℕ, ◌+◌, ◌*◌, ◌-◌, ◌/◌, ◌^◌, ◌<◌, ◌≡◌, take, length, ap, arith, sym, subst, ◌∙◌}
use Rattle.std.proofs.Math.Nat.{div-one}
use Rattle.std.proofs.lemmas.Nat.{shr_below, shr_le}
use Rattle.seal_keys.specs.Keys.{node_of, places, tree_height}
use Rattle.seal_keys.specs.Seals.{sibling_at, sibling_of}
use Rattle.seal_keys.specs.States.{Keys}
use Rattle.seal_keys.proofs.Digests.{length-node_of}
use Rattle.seal_keys.proofs.Heights.{sibling_below, tree_height_enough}
use Rattle.seal_keys.proofs.Paths.{index_up}
use Rattle.seal_keys.proofs.Parts.{joined_below-none, written_more}
use Rattle.seal_keys.proofs.keys.SealKeys.put_siblings.Goals as goal

pub loop-height-init : goal.loop-height-init
loop-height-init c = record {
  done = sym (joined_below-none (sibling_at c.args.self.now.game c.args.self.now.seed c.args.place));
  index = sym (div-one c.args.place);
}

pub sibling_of-requires : goal.sibling_of-requires
sibling_of-requires c =
    let same = ap (λ (k : Keys). places k.game) c.self.view_is in
    let less = shr_le c.args.place c.loop-height.height in
    omega (arith, c.facts.ensures.turns, c.loop-height.invariant.index)

pub node-requires-clause-index : goal.node-requires-clause-index
node-requires-clause-index c =
    let game = c.args.self.now.game in
    let h = c.loop-height.height in
    let few = ap (λ (k : Keys). k.game.turns) c.self.view_is in
    let same = ap (λ (k : Keys). tree_height k.game) c.self.view_is in
    let is = c.self.invariant.tree_is in
    let left : tree_height game - h - 1 + 1 ≡ tree_height game - h = omega arith in
    let all : tree_height game - h - 1 + 1 + h ≡ tree_height game = omega arith in
    let enough = tree_height_enough game (omega (arith, c.facts.ensures.turns)) in
    let small = shr_below c.args.place (tree_height game - h - 1 + 1) h (subst (λ (n : ℕ). c.args.place < 2 ^ n) (sym all) (omega arith)) in
    let sibling = sibling_below (c.args.place / 2 ^ h) (tree_height game - h - 1) small in
    let here : sibling_of c.loop-height.index ≡ sibling_of (c.args.place / 2 ^ h) = ap sibling_of c.loop-height.invariant.index in
    subst (λ (s : ℕ). s < 2 ^ (tree_height game - h)) (sym (c.sibling_of.ensures ∙ here)) (subst (λ (n : ℕ). sibling_of (c.args.place / 2 ^ h) < 2 ^ n) left sibling)

pub loop-height-preserved : goal.loop-height-preserved
loop-height-preserved c =
    let game = c.args.self.now.game in
    let seed = c.args.self.now.seed in
    let h = c.loop-height.height in
    let f = sibling_at game seed c.args.place in
    let same = ap (λ (k : Keys). tree_height k.game) c.self.view_is in
    let is = c.self.invariant.tree_is in
    let part = c.node.ensures ∙ ap (node_of game seed h) (c.sibling_of.ensures ∙ ap sibling_of c.loop-height.invariant.index) in
    record {
      done = ap (take (32 * (h + 1))) c.put_slice.ensures
          ∙ written_more f c.loop-height.out c.node.result h c.loop-height.invariant.done part (ap length part ∙ length-node_of game seed h (sibling_of (c.args.place / 2 ^ h))) (omega arith);
      index = ap (λ (i : ℕ). i / 2) c.loop-height.invariant.index ∙ index_up c.args.place h;
    }
