use Rattle.std.proofs.Common.{ℕ, List, ◌∙◌, ◌≡◌, ap, arith, sym, subst, false, true}
use Rattle.std.specs.Prelude.{bytes_eq}
use Rattle.seal_keys.specs.Keys.{public_pair, publics}
use Rattle.seal_keys.specs.Parts.{joined_below}
use Rattle.seal_keys.specs.Seals.{shown, shown_pair}
use Rattle.seal_keys.proofs.Digests.{length-public_pair}
use Rattle.seal_keys.proofs.Departed.{length-shown_pair}
use Rattle.seal_keys.proofs.Parts.{differ_at, joined_below-none, same_bytes, same_more}
use Rattle.seal_keys.proofs.departures.shows_publics.Goals as goal

pub loop-i-init : goal.loop-i-init
loop-i-init c = joined_below-none (shown_pair c.args.message.now c.args.seal.now) ∙ sym (joined_below-none (public_pair c.args.seed.now c.args.place))

pub loop-i-preserved : goal.loop-i-preserved
loop-i-preserved c =
    let f = shown_pair c.args.message.now c.args.seal.now in
    let g = public_pair c.args.seed.now c.args.place in
    let i = c.loop-i.i in
    let pair : bytes_eq (f i) (g i) ≡ true
    = ap (λ (a : List ℕ). bytes_eq a (g i)) (sym c.shown_pair.ensures) ∙ ap (bytes_eq c.shown_pair.result) (sym c.public_pair.ensures) ∙ sym c.same_pair.ensures ∙ c.if-not-same_pair.false in
    same_more f g i c.loop-i.invariant pair

pub returns-then-not-same_pair : goal.returns-then-not-same_pair
unfolding shown publics
returns-then-not-same_pair c =
    let f = shown_pair c.args.message.now c.args.seal.now in
    let g = public_pair c.args.seed.now c.args.place in
    let i = c.loop-i.i in
    let pair : bytes_eq (f i) (g i) ≡ false
    = ap (λ (a : List ℕ). bytes_eq a (g i)) (sym c.shown_pair.ensures) ∙ ap (bytes_eq c.shown_pair.result) (sym c.public_pair.ensures) ∙ sym c.same_pair.ensures ∙ c.if-not-same_pair.true in
    sym (differ_at f g 256 64 i (λ j less. length-shown_pair c.args.message.now c.args.seal.now j less (omega arith))
    (λ j less. length-public_pair c.args.seed.now c.args.place j) pair (omega arith))

pub returns : goal.returns
unfolding shown publics
returns c =
    let f = shown_pair c.args.message.now c.args.seal.now in
    let g = public_pair c.args.seed.now c.args.place in
    let all : c.loop-i.i ≡ 256 = omega arith in
    sym (same_bytes (joined_below f 256) (joined_below g 256) (subst (λ (n : ℕ). joined_below f n ≡ joined_below g n) all c.loop-i.invariant))
