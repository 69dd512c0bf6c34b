-- SealedWords: what the words say by which sealed frames are judged.
use Rattle.std.specs.Prelude.{ℕ, List, [], ◌∷◌, Option, Some, None}
use Rattle.file_commands.specs.declared.sealed_words.SealedJudgeWords.{SealedJudgeWords}

-- a run of the command, by its words
pub record SealedJudging : Type 0 where
  -- the session's file
  pub session : List ℕ
  -- the file of an exhibit with seals
  pub evidence : List ℕ
  -- the file of the players' roots
  pub roots : List ℕ

-- the run that the words say
abbrev pub sealed_judging_said : SealedJudgeWords → SealedJudging
sealed_judging_said words = record { session = words.session.now; evidence = words.evidence.now; roots = words.roots.now }

-- the run of the words after the command's name: `SESSION EVIDENCE ROOTS`
abbrev pub sealed_judging_in : List (List ℕ) → Option SealedJudging
sealed_judging_in (session ∷ evidence ∷ roots ∷ []) = Some (record { session = session; evidence = evidence; roots = roots })
sealed_judging_in words = None
