use Rattle.std.proofs.Common.{ℕ, List, ◌-◌, ◌++◌, ◌≡◌, length, ap, arith, sym, ◌∙◌}
use Rattle.std.proofs.lemmas.List.{length-take-le}
use Rattle.seal_keys.specs.Parts.{joined_below}
use Rattle.seal_keys.specs.Seals.{bit_of, disclosed, other_public, seal_of}
use Rattle.seal_keys.specs.States.{Keys}
use Rattle.seal_keys.proofs.Digests.{length-public_value, length-secret}
use Rattle.seal_keys.proofs.Parts.{length-joined_below, length-put_two, put_three}
use Rattle.seal_keys.proofs.keys.SealKeys.put_seal.Goals as goal

pub put_disclosed-requires : goal.put_disclosed-requires
put_disclosed-requires c = length-take-le 8192 c.args.out.now (omega arith)

pub slice_bounds-put_disclosed-end-2 : goal.slice_bounds-put_disclosed-end-2
slice_bounds-put_disclosed-end-2 c = sym (length-take-le 8192 c.args.out.now (omega arith))

pub returns : goal.returns
unfolding seal_of
returns c =
    let game = c.args.self.now.game in
    let k = c.args.place in
    let m = c.args.message.now in
    let d : c.put_disclosed.new.out ≡ joined_below (disclosed c.args.self.now.seed k m) 256
    = c.put_disclosed.ensures ∙ ap (λ (x : Keys). joined_below (disclosed x.seed k m) 256) c.self.view_is in
    let o : c.put_others.new.out ≡ joined_below (other_public c.args.self.now.seed k m) 256
    = c.put_others.ensures ∙ ap (λ (x : Keys). joined_below (other_public x.seed k m) 256) c.self.view_is in
    let s = c.put_siblings.ensures in
    let one : length c.put_disclosed.new.out ≡ 8192 = ap length d ∙ length-joined_below (disclosed c.args.self.now.seed k m) 256 32 (λ i. length-secret c.args.self.now.seed k i (bit_of m i)) in
    let two : length c.put_others.new.out ≡ 8192 = ap length o ∙ length-joined_below (other_public c.args.self.now.seed k m) 256 32 (λ i. length-public_value c.args.self.now.seed k i (1 - bit_of m i)) in
    let all = length-put_two c.put_disclosed.new.out c.put_others.new.out c.args.out.now 8192 8192 one two (omega arith) in
    put_three c.put_disclosed.new.out c.put_others.new.out c.put_siblings.new.out c.args.out.now 8192 8192 _ one two (omega (arith, all))
    ∙ ap (λ (b : List ℕ). b ++ (c.put_others.new.out ++ c.put_siblings.new.out)) d
    ∙ ap (λ (b : List ℕ). joined_below (disclosed c.args.self.now.seed k m) 256 ++ (b ++ c.put_siblings.new.out)) o
    ∙ ap (λ (b : List ℕ). joined_below (disclosed c.args.self.now.seed k m) 256 ++ (joined_below (other_public c.args.self.now.seed k m) 256 ++ b)) s
