-- Taken: the lines of frames and seals that are read are their own.
use Rattle.std.proofs.Common.{◌≡◌, ℕ, suc, ◌+◌, ◌≤◌, ◌<◌, List, [], ◌∷◌, ◌++◌, length, Ok, refl, ap, subst, ◌∙◌, arith, inl, inr}
use Rattle.std.specs.Prelude.{nat_lt}
use Rattle.std.proofs.lemmas.Bool.{ltb-true}
use Rattle.definitions.specs.declared.frames.TurnFrame.{TurnFrame}
use Rattle.definitions.specs.Lists.{EachIs}
use Rattle.text_lines.specs.Reading.{or_fault}
use Rattle.text_lines.proofs.Steps.{bind_ok, ok_is, or_fault_ok}
use Rattle.text_fields.specs.declared.fault.TextFault.{TextFault}
use Rattle.text_fields.specs.declared.fault.TextFault.TheVariants.{At}
use Rattle.plain_lemmas.proofs.Options.{when_some}
use Rattle.plain_lemmas.proofs.Tests.{chosen}
use Rattle.evidence.specs.Text.{FitsText, end_line, frame_line}
use Rattle.evidence.specs.Reading.{frame_said, is_end}
use Rattle.evidence.proofs.Steps.{frame_said-some}
use Rattle.evidence.proofs.Taken.{end_is}
use Rattle.sealed_text.specs.declared.limits.TheConstants.{MOST_SEALED_FRAMES}
use Rattle.sealed_text.specs.Text.{FitsSeal, pair_lines, seal_line}
use Rattle.sealed_text.specs.Reading.{frame_at, line_after, pairs_at, seal_said}
use Rattle.sealed_text.proofs.Steps.{seal_said-some}

pub record TakesPairs (n count : ℕ) (lines : List (List ℕ)) (x : List TurnFrame × List (List ℕ)) : Type 0 where
  pub spelled : lines ≡ pair_lines x.0 x.1 ++ (end_line ∷ [])
  pub some : 0 < count + length x.0
  pub few : count + length x.0 ≤ MOST_SEALED_FRAMES
  pub each : length x.1 ≡ length x.0
  pub frames : EachIs FitsText x.0
  pub seals : EachIs (FitsSeal n) x.1

pub frame_takes : (count : ℕ) (line : List ℕ) (f : TurnFrame) → frame_at count line ≡ Ok f → (count < MOST_SEALED_FRAMES) × (line ≡ frame_line f) × FitsText f
unfolding frame_at
frame_takes count line f e =
    let kept = when_some (nat_lt count MOST_SEALED_FRAMES) (frame_said line) f (or_fault_ok (At (line_after count)) _ f e) in
    let said = frame_said-some line f kept.1 in
    (ltb-true count MOST_SEALED_FRAMES kept.0, said.0, said.1)

pub pairs_take : (n count : ℕ) (lines : List (List ℕ)) (x : List TurnFrame × List (List ℕ)) → count ≤ MOST_SEALED_FRAMES → pairs_at n count lines ≡ Ok x → TakesPairs n count lines x
unfolding pairs_at
pairs_take n count [] x few e = absurd cc
pairs_take n count (line ∷ []) x few e =
    elim (chosen (is_end count line) _ _ _ e) [
      | inl last ↦
          let end = end_is count line last.0 in
          let count_some = end.1 in
          subst (TakesPairs n count (line ∷ [])) (ok_is {E = TextFault} ([], []) x last.1)
          (record { spelled = ap (λ (l : List ℕ). l ∷ []) end.0; some = omega arith; few = omega arith; each = refl; frames = tt; seals = tt })
      | inr more ↦
          let a = bind_ok (frame_at count line) _ x more.1 in
          let bad = a.2 in absurd cc
    ]
pairs_take n count (line ∷ next ∷ lines) x few e =
    elim (chosen (is_end count line) _ _ _ e) [
      | inl last ↦ let bad = last.1 in absurd cc
      | inr more ↦
          let a = bind_ok (frame_at count line) _ x more.1 in
          let b = bind_ok (or_fault (At (suc (line_after count))) (seal_said n next)) _ x a.2 in
          let d = bind_ok (pairs_at n (suc count) lines) _ x b.2 in
          let frame = frame_takes count line a.0 a.1 in
          let seal = seal_said-some n next b.0 (or_fault_ok (At (suc (line_after count))) _ b.0 b.1) in
          let lt = frame.0 in
          let others = pairs_take n (suc count) lines d.0 (omega arith) d.1 in
          let within = others.few in
          let same = others.each in
          subst (TakesPairs n count (line ∷ next ∷ lines)) (ok_is {E = TextFault} (a.0 ∷ d.0.0, b.0 ∷ d.0.1) x d.2)
          (record {
            spelled = ap (λ (l : List ℕ). l ∷ next ∷ lines) frame.1 ∙ ap (λ (l : List ℕ). frame_line a.0 ∷ l ∷ lines) seal.0
                ∙ ap (λ (ls : List (List ℕ)). frame_line a.0 ∷ seal_line b.0 ∷ ls) others.spelled;
            some = omega arith;
            few = omega arith;
            each = omega (arith, same);
            frames = (frame.2, others.frames);
            seals = (seal.1, others.seals);
          })
    ]
