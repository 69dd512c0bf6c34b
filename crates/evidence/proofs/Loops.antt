-- Reading frames one after the other, as a loop does.
use Rattle.std.proofs.Common.{◌≡◌, ℕ, suc, ◌+◌, ◌≤◌, ◌<◌, true, false, List, [], ◌∷◌, ◌++◌, length, Result, Ok, Err, refl, sym, ap, subst, ◌∙◌, length-append, arith}
use Rattle.std.proofs.lemmas.List.{append-nil}
use Rattle.definitions.specs.declared.limits.TheConstants.{MOST_EVIDENCE_FRAMES}
use Rattle.definitions.specs.declared.frames.TurnFrame.{TurnFrame}
use Rattle.text_fields.specs.declared.fault.TextFault.{TextFault}
use Rattle.text_fields.specs.declared.fault.TextFault.TheVariants.{At, Memory}
use Rattle.text_fields.specs.Faults.{is_memory}
use Rattle.text_lines.specs.Answers.{Fails}
use Rattle.text_lines.proofs.Steps.{with_front, with_front-more}
use Rattle.evidence.specs.Reading.{line_behind, is_end, frame_at, frames_at}

-- what holds in front of each line that may say a frame
pub record AtFrame (front : List TurnFrame) (lines : List (List ℕ)) (total : Result (List TurnFrame) TextFault) : Type 0 where
  pub read : with_front front (frames_at (length front) lines) ≡ total
  pub few : length front ≤ MOST_EVIDENCE_FRAMES

pub frames_more : (front : List TurnFrame) (line : List ℕ) (lines after : List (List ℕ)) (f : TurnFrame) (total : Result (List TurnFrame) TextFault)
    → lines ≡ line ∷ after → is_end (length front) line ≡ false → frame_at (length front) line ≡ Ok f → length front < MOST_EVIDENCE_FRAMES
    → AtFrame front lines total → AtFrame (front ++ f ∷ []) after total
unfolding frames_at
frames_more front line lines after f total split other read few at =
    let one : with_front front (frames_at (length front) lines) ≡ with_front (front ++ f ∷ []) (frames_at (suc (length front)) after) =
    rw (split, other, read) (with_front-more front f (frames_at (suc (length front)) after)) in
    let count : suc (length front) ≡ length (front ++ f ∷ []) = let l = length-append front (f ∷ []) in omega arith in
    record {
      read = subst (λ (m : ℕ). with_front (front ++ f ∷ []) (frames_at m after) ≡ total) count (sym one ∙ at.read);
      few = omega (arith, count);
    }

pub frames_fail : (e : TextFault) (front : List TurnFrame) (line : List ℕ) (lines after : List (List ℕ)) (total : Result (List TurnFrame) TextFault)
    → lines ≡ line ∷ after → is_end (length front) line ≡ false → Fails is_memory e (frame_at (length front) line) → AtFrame front lines total → Fails is_memory e total
unfolding frames_at
frames_fail Memory front line lines after total split other h at = tt
frames_fail (At m) front line lines after total split other h at =
    let one : with_front front (frames_at (length front) lines) ≡ Err (At m) = rw (split, other, h) refl in
    sym at.read ∙ one

pub frames_end : (front : List TurnFrame) (line : List ℕ) (lines : List (List ℕ)) (total : Result (List TurnFrame) TextFault)
    → lines ≡ line ∷ [] → is_end (length front) line ≡ true → AtFrame front lines total → total ≡ Ok front
unfolding frames_at
frames_end front line lines total split is at =
    let one : with_front front (frames_at (length front) lines) ≡ Ok front = rw (split, is) (ap (λ (frames : List TurnFrame). Ok frames) (append-nil front)) in
    sym at.read ∙ one

pub frames_past : (front : List TurnFrame) (line next : List ℕ) (lines after : List (List ℕ)) (total : Result (List TurnFrame) TextFault)
    → lines ≡ line ∷ next ∷ after → is_end (length front) line ≡ true → AtFrame front lines total → total ≡ Err (At (line_behind (length front) + 1))
unfolding frames_at
frames_past front line next lines after total split is at =
    let one : with_front front (frames_at (length front) lines) ≡ Err (At (line_behind (suc (length front)))) = rw (split, is) refl in
    let number : line_behind (suc (length front)) ≡ line_behind (length front) + 1 = omega arith in
    sym at.read ∙ one ∙ ap (λ (n : ℕ). Err (At n)) number

pub frames_missing : (front : List TurnFrame) (lines : List (List ℕ)) (total : Result (List TurnFrame) TextFault)
    → lines ≡ [] → AtFrame front lines total → total ≡ Err (At (line_behind (length front)))
unfolding frames_at
frames_missing front lines total none at =
    let one : with_front front (frames_at (length front) lines) ≡ Err (At (line_behind (length front))) = rw none refl in
    sym at.read ∙ one
