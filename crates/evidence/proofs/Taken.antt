-- What is read is an exhibit that a text may say, and its lines are spelled so.
use Rattle.std.proofs.Common.{◌≡◌, ℕ, suc, ◌+◌, ◌^◌, ◌≤◌, ◌<◌, true, List, [], ◌∷◌, ◌++◌, length, Ok, sym, ap, subst, ◌∙◌, arith, inl, inr}
use Rattle.std.specs.Prelude.{codes, not, nat_lt, ◌==◌}
use Rattle.std.specs.Cmp.Lexicographic.{same_text}
use Rattle.std.proofs.lemmas.Bool.{and_parts, not-true, eqb-false, ltb-true}
use Rattle.definitions.specs.declared.frames.TurnFrame.{TurnFrame}
use Rattle.definitions.specs.declared.limits.TheConstants.{GREATEST_PLAYER, MOST_EVIDENCE_FRAMES}
use Rattle.definitions.specs.Lists.{EachIs}
use Rattle.text_lines.specs.Lines.{line_of, is_bare, one_within}
use Rattle.text_lines.specs.Reading.{line_at}
use Rattle.text_lines.proofs.Forms.{one_within-some}
use Rattle.text_lines.proofs.Steps.{behind_line, bind_ok, line_at_ok, line_at_spelled, none_behind, ok_is, or_fault_ok}
use Rattle.text_fields.specs.declared.fault.TextFault.{TextFault}
use Rattle.text_fields.specs.declared.fault.TextFault.TheVariants.{At}
use Rattle.plain_lemmas.proofs.Options.{when_some}
use Rattle.plain_lemmas.proofs.Tests.{chosen}
use Rattle.evidence.specs.Text.{FitsText, frame_line, end_line, head_lines, frame_lines, kind_line}
use Rattle.evidence.specs.declared.head.Head.{Head}
use Rattle.evidence.specs.Reading.{head_at, kind_said, line_behind, is_end, frame_said, frame_at, frames_at}
use Rattle.evidence.proofs.Steps.{kind_said-some, frame_said-some}

pub record TakesHead (version : ℕ) (lines : List (List ℕ)) (x : Head × List (List ℕ)) : Type 0 where
  pub spelled : lines ≡ head_lines version x.0.player x.0.turn x.0.kind ++ x.1
  pub player : x.0.player ≤ GREATEST_PLAYER
  pub turn : x.0.turn < 2 ^ 32

-- a line of a number, and those behind it
number_takes : (n : ℕ) (name : List ℕ) (low high : ℕ) (lines : List (List ℕ)) (x : ℕ × List (List ℕ)) → line_at (At n) (one_within name low high) lines ≡ Ok x
    → (lines ≡ line_of name (x.0 ∷ []) ∷ x.1) × (low ≤ x.0) × (x.0 ≤ high)
number_takes n name low high lines x e =
    let line = line_at_ok (At n) (one_within name low high) lines x.0 x.1 e in
    let number = one_within-some name low high line.0 x.0 line.2 in
    (line.1 ∙ ap (λ (l : List ℕ). l ∷ x.1) number.0, number.1, number.2)

pub head_takes : (version : ℕ) (lines : List (List ℕ)) (x : Head × List (List ℕ)) → head_at version lines ≡ Ok x → TakesHead version lines x
unfolding head_at
head_takes version lines x e =
    let a = bind_ok (line_at (At 1) (one_within (codes "evidence") version version) lines) _ x e in
    let b = bind_ok (line_at (At 2) (one_within (codes "player") 0 GREATEST_PLAYER) a.0.1) _ x a.2 in
    let c = bind_ok (line_at (At 3) (one_within (codes "turn") 0 4294967295) b.0.1) _ x b.2 in
    let d = bind_ok (line_at (At 4) kind_said c.0.1) _ x c.2 in
    let said = number_takes 1 (codes "evidence") version version lines a.0 a.1 in
    let player = number_takes 2 (codes "player") 0 GREATEST_PLAYER a.0.1 b.0 b.1 in
    let turn = number_takes 3 (codes "turn") 0 4294967295 b.0.1 c.0 c.1 in
    let kind = line_at_spelled (At 4) kind_said kind_line c.0.1 d.0 kind_said-some d.1 in
    let low = said.1 in
    let high = said.2 in
    let one : a.0.0 ≡ version = omega arith in
    let first = said.0 ∙ ap (λ (n : ℕ). line_of (codes "evidence") (n ∷ []) ∷ a.0.1) one in
    let head : Head = record { player = b.0.0; turn = c.0.0; kind = d.0.0 } in
    let most = turn.2 in
    subst (λ (y : Head × List (List ℕ)). TakesHead version lines y) {x = (head, d.0.1)} (ok_is {E = TextFault} (head, d.0.1) x d.2)
    (record {
      spelled = behind_line lines a.0.1 _ _ first (behind_line a.0.1 b.0.1 _ _ player.0 (behind_line b.0.1 c.0.1 _ _ turn.0 kind));
      player = player.2;
      turn = omega arith;
    })

pub record TakesFrames (count : ℕ) (lines : List (List ℕ)) (fs : List TurnFrame) : Type 0 where
  pub spelled : lines ≡ frame_lines fs
  pub some : 0 < count + length fs
  pub few : count + length fs ≤ MOST_EVIDENCE_FRAMES
  pub frames : EachIs FitsText fs

pub frame_takes : (count : ℕ) (line : List ℕ) (f : TurnFrame) → frame_at count line ≡ Ok f → (count < MOST_EVIDENCE_FRAMES) × (line ≡ frame_line f) × FitsText f
unfolding frame_at
frame_takes count line f e =
    let kept = when_some (nat_lt count MOST_EVIDENCE_FRAMES) (frame_said line) f (or_fault_ok (At (line_behind count)) _ f e) in
    let said = frame_said-some line f kept.1 in
    (ltb-true count MOST_EVIDENCE_FRAMES kept.0, said.0, said.1)

-- what is said of `end` where the line is it
pub end_is : (count : ℕ) (line : List ℕ) → is_end count line ≡ true → (line ≡ end_line) × (0 < count)
end_is count line is =
    let both = and_parts (is_bare (codes "end") line) (not (count == 0)) is in
    let other = eqb-false count 0 (not-true (count == 0) both.1) in
    (same_text line end_line (sym both.0), omega (arith, other))

pub frames_take : (count : ℕ) (lines : List (List ℕ)) (fs : List TurnFrame) → count ≤ MOST_EVIDENCE_FRAMES → frames_at count lines ≡ Ok fs → TakesFrames count lines fs
unfolding frames_at
frames_take count [] fs few e = absurd cc
frames_take count (line ∷ lines) fs few e =
    elim (chosen (is_end count line) _ _ _ e) [
      | inl last ↦
          let none = none_behind (At (line_behind (suc count))) lines fs last.1 in
          let end = end_is count line last.0 in
          let count_some = end.1 in
          subst (λ (gs : List TurnFrame). TakesFrames count (line ∷ lines) gs) none.1
          (record {
            spelled = ap (λ (l : List ℕ). l ∷ lines) end.0 ∙ ap (λ (ls : List (List ℕ)). end_line ∷ ls) none.0;
            some = omega arith;
            few = omega arith;
            frames = tt;
          })
      | inr more ↦
          let a = bind_ok (frame_at count line) _ fs more.1 in
          let b = bind_ok (frames_at (suc count) lines) _ fs a.2 in
          let first = frame_takes count line a.0 a.1 in
          let lt = first.0 in
          let others = frames_take (suc count) lines b.0 (omega arith) b.1 in
          let within = others.few in
          subst (λ (gs : List TurnFrame). TakesFrames count (line ∷ lines) gs) {x = a.0 ∷ b.0} (ok_is {E = TextFault} (a.0 ∷ b.0) fs b.2)
          (record {
            spelled = behind_line (line ∷ lines) lines _ _ (ap (λ (l : List ℕ). l ∷ lines) first.1) others.spelled;
            some = omega arith;
            few = omega arith;
            frames = (first.2, others.frames);
          })
    ]
