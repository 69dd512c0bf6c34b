-- Sealed: what stands in the bytes for a seal, by what became of the wish to seal a frame.
use Rattle.std.proofs.Common.{◌≡◌, ◌+◌, List, ◌++◌, ℕ, length, take, drop, sym, ap, ◌∙◌, arith}
use Rattle.std.proofs.lemmas.List.{take-append-drop}
use Rattle.byte_fields.specs.Fields.{overwritten}
use Rattle.definitions.specs.declared.frames.TurnFrame.{TurnFrame}
use Rattle.seal_keys.specs.declared.answer.SealAnswer.{SealAnswer}
use Rattle.seal_keys.specs.declared.answer.SealAnswer.TheVariants.{Done, Used, Foreign}
use Rattle.seal_keys.specs.Seals.{seal_len}
use Rattle.seal_keys.specs.States.{Keys, room_after}
use Rattle.lethwyrn_c.specs.Sealing.{front_after}

-- the seal stands at the front
pub done_front : (keys : Keys) (f : TurnFrame) (answer : SealAnswer) (old room out : List ℕ) → answer ≡ Done → room ≡ room_after keys f answer old →
    length room ≡ seal_len keys.game → overwritten out 0 room ≡ front_after keys f answer out
unfolding room_after
done_front keys f answer old room out is stands long =
    let n = seal_len keys.game in
    let same : room_after keys f answer old ≡ room_after keys f answer (take n out) = ap (λ (a : SealAnswer). room_after keys f a old) is ∙ sym (ap (λ (a : SealAnswer). room_after keys f a (take n out)) is) in
    let whole : 0 + length room ≡ n = omega (arith, long) in
    ap (λ (i : ℕ). room ++ drop i out) whole ∙ ap (λ (r : List ℕ). r ++ drop n out) (stands ∙ same)

-- the bytes stay
pub used_front : (keys : Keys) (f : TurnFrame) (answer : SealAnswer) (out : List ℕ) → answer ≡ Used → out ≡ front_after keys f answer out
unfolding room_after
used_front keys f answer out is = sym (take-append-drop (seal_len keys.game) out) ∙ sym (ap (λ (a : SealAnswer). front_after keys f a out) is)

pub foreign_front : (keys : Keys) (f : TurnFrame) (answer : SealAnswer) (out : List ℕ) → answer ≡ Foreign → out ≡ front_after keys f answer out
unfolding room_after
foreign_front keys f answer out is = sym (take-append-drop (seal_len keys.game) out) ∙ sym (ap (λ (a : SealAnswer). front_after keys f a out) is)
