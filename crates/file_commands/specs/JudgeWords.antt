-- Words: what the words of the command say.
use Rattle.std.specs.Prelude.{ℕ, List, [], ◌∷◌, Option, Some, None}
use Rattle.file_commands.specs.declared.judge_words.JudgeWords.{JudgeWords}

-- a run of the command, by its words
pub record Judging : Type 0 where
  -- the session's file
  pub session : List ℕ
  -- the file of an exhibit
  pub evidence : List ℕ

-- the run that the words say
abbrev pub judging_said : JudgeWords → Judging
judging_said words = record { session = words.session.now; evidence = words.evidence.now }

-- the run of the words behind the command's name: `SESSION EVIDENCE`
abbrev pub judging_in : List (List ℕ) → Option Judging
judging_in (session ∷ evidence ∷ []) = Some (record { session = session; evidence = evidence })
judging_in words = None
