-- Again: what is spelled is read. The text of a sealed exhibit is read as it.
use Rattle.std.proofs.Common.{◌≡◌, ℕ, suc, ◌+◌, ◌≤◌, ◌<◌, false, List, [], ◌∷◌, ◌++◌, length, Ok, refl, arith}
use Rattle.std.specs.Prelude.{codes, ◌==◌}
use Rattle.std.proofs.lemmas.Bool.{ne_eqb, lt-ltb}
use Rattle.definitions.specs.declared.frames.TurnFrame.{TurnFrame}
use Rattle.definitions.specs.Lists.{EachIs}
use Rattle.definitions.specs.World.{Game}
use Rattle.text_lines.specs.Lines.{ended_lines_of}
use Rattle.text_lines.proofs.Joined.{AreLines, bare_line, ended_lines_of-joined, one_line}
use Rattle.evidence.specs.Text.{FitsText, end_line, frame_line}
use Rattle.evidence.proofs.Again.{frame_is_line, head_again, kind_is_line}
use Rattle.evidence.proofs.Steps.{frame_said-spelled}
use Rattle.seal_keys.specs.Seals.{seal_len}
use Rattle.sealed_evidence.specs.declared.sealed.SealedExhibit.{SealedExhibit}
use Rattle.sealed_text.specs.declared.limits.TheConstants.{MOST_SEALED_FRAMES}
use Rattle.sealed_text.specs.Text.{FitsSeal, IsSealed, pair_lines, sealed_lines, sealed_text}
use Rattle.sealed_text.specs.Reading.{frame_at, pairs_at, said_by}
use Rattle.sealed_text.proofs.Steps.{seal_is_line, seal_said-spelled}

pub frame_again : (count : ℕ) (f : TurnFrame) → count < MOST_SEALED_FRAMES → FitsText f → frame_at count (frame_line f) ≡ Ok f
unfolding frame_at
frame_again count f few fits = rw (lt-ltb count MOST_SEALED_FRAMES few, frame_said-spelled f fits) refl

pub pairs_again : (n count : ℕ) (fs : List TurnFrame) (ss : List (List ℕ)) → length ss ≡ length fs → 0 < count + length fs → count + length fs ≤ MOST_SEALED_FRAMES
    → EachIs FitsText fs → EachIs (FitsSeal n) ss → pairs_at n count (pair_lines fs ss ++ (end_line ∷ [])) ≡ Ok (fs, ss)
unfolding pairs_at
pairs_again n count [] [] each some few frames seals =
    let other : (count == 0) ≡ false = ne_eqb count 0 (λ e. absurd (omega arith)) in
    rw other refl
pairs_again n count [] (s ∷ ss) each some few frames seals = absurd (omega (arith, each))
pairs_again n count (f ∷ fs) [] each some few frames seals = absurd (omega (arith, each))
pairs_again n count (f ∷ fs) (s ∷ ss) each some few frames seals =
    rw (
      frame_again count f (omega arith) frames.0,
      seal_said-spelled n s seals.0,
      pairs_again n (suc count) fs ss (omega (arith, each)) (omega arith) (omega arith) frames.1 seals.1,
    ) refl

pub said_again : (game : Game) (x : SealedExhibit) → IsSealed game x → said_by (seal_len game) (sealed_lines x) ≡ Ok x
unfolding said_by
said_again game x is =
    let some = is.some in
    let few = is.few in
    let lines : List (List ℕ) = pair_lines x.exhibit.frames x.seals ++ (end_line ∷ []) in
    rw (
      head_again 2 x.exhibit.player x.exhibit.turn x.exhibit.kind lines (omega arith) is.player is.turn,
      pairs_again (seal_len game) 0 x.exhibit.frames x.seals is.count (omega arith) (omega arith) is.frames is.seals,
    ) refl

-- ---- the lines of the text

pairs_are_lines : (n : ℕ) (fs : List TurnFrame) (ss : List (List ℕ)) → EachIs FitsText fs → EachIs (FitsSeal n) ss → AreLines (pair_lines fs ss ++ (end_line ∷ []))
pairs_are_lines n [] ss frames seals = (bare_line (codes "end") refl, tt)
pairs_are_lines n (f ∷ fs) [] frames seals = (bare_line (codes "end") refl, tt)
pairs_are_lines n (f ∷ fs) (s ∷ ss) frames seals = (frame_is_line f frames.0, (seal_is_line n s seals.0, pairs_are_lines n fs ss frames.1 seals.1))

pub ended_lines_of-sealed_text : (game : Game) (x : SealedExhibit) → IsSealed game x → ended_lines_of (sealed_text x) ≡ sealed_lines x
unfolding sealed_text
ended_lines_of-sealed_text game x is =
    let player = is.player in
    ended_lines_of-joined (sealed_lines x) (
      one_line (codes "evidence") 2 refl (omega arith),
      (
        one_line (codes "player") x.exhibit.player refl (omega arith),
        (
          one_line (codes "turn") x.exhibit.turn refl is.turn,
          (kind_is_line x.exhibit.kind, pairs_are_lines (seal_len game) x.exhibit.frames x.seals is.frames is.seals),
        ),
      ),
    )
