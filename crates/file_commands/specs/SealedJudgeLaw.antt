-- SealedJudgeLaw: what is promised of `judge` with roots: the sealed exhibit of a file is judged in the session of
-- another, by the roots of a third.
use Rattle.std.specs.Prelude.{◌≡◌, ◌⊎◌, ℕ, List, [], ◌∷◌, Ok, false}
use Rattle.definitions.specs.Lists.{item_or}
use Rattle.line_io.specs.Files.{AreContents, Contents}
use Rattle.run_frame.specs.Law.{Law, law_without_input}
use Rattle.file_commands.specs.SealedCases.{MayReadEach, SealedCase, sealed_case_for}
use Rattle.file_commands.specs.SealedJudge.{SealedCause, TellsSealedVerdict, is_shown_sealed, sealed_answer}
use Rattle.file_commands.specs.SealedWords.{SealedJudging}

abbrev pub sealed_judge_law : SealedJudging → Law
sealed_judge_law j = law_without_input (j.session ∷ j.evidence ∷ j.roots ∷ [])
    -- a file is read only where those before it have what is asked of them
    (λ before after calls. (contents : Contents) → AreContents contents calls → (n : ℕ) → (item_or calls n [] ≡ []) ⊎ MayReadEach contents n)
    (λ contents. sealed_answer (sealed_case_for contents))
    (λ contents status. SealedCause (sealed_case_for contents) status)
    (λ contents. (c : SealedCase) × (sealed_case_for contents ≡ Ok c) × (is_shown_sealed c ≡ false))
    (λ contents. (c : SealedCase) → sealed_case_for contents ≡ Ok c → TellsSealedVerdict c (sealed_answer (sealed_case_for contents)).body)
