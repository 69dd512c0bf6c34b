-- Words: what the words of the command say.
use Rattle.std.specs.Prelude.{ℕ, List, ◌∷◌, Option, Some, None, map, if◌then◌else◌}
use Rattle.file_commands.specs.AuditWords.{are_few}
use Rattle.accuse_command.specs.declared.words.AccuseWords.{AccuseWords}

-- a run of the command, by its words
pub record Accusing : Type 0 where
  -- the session's file
  pub session : List ℕ
  -- the file of the players' roots
  pub roots : List ℕ
  -- the files of sealed frames, in their order
  pub files : List (List ℕ)

-- the run that the words say
abbrev pub accusing_said : AccuseWords → Accusing
accusing_said words = record {
  session = words.session.now;
  roots = words.roots.now;
  files = map (λ w. w.items) words.files.now;
}

-- the run of the words after the command's name: `SESSION ROOTS FILE..`
abbrev pub accusing_in : List (List ℕ) → Option Accusing
accusing_in (session ∷ roots ∷ files) =
    if are_few files then Some (record { session = session; roots = roots; files = files }) else None
accusing_in words = None
