-- Words: what the words of the command say.
use Rattle.std.specs.Prelude.{ℕ, List, [], ◌∷◌, Option, Some, None, option_map}
use Rattle.text_fields.specs.Numbers.{number_of}
use Rattle.drive_command.specs.declared.words.TheConstants.{LAST_PLAYER}
use Rattle.drive_command.specs.declared.words.DriveWords.{DriveWords}

-- a run of the command, by its words
pub record Driving : Type 0 where
  -- the session's file
  pub session : List ℕ
  pub player : ℕ
  -- the file of a log to go on from, if one is named
  pub old : Option (List ℕ)

-- the run that the words say
abbrev pub driving_said : DriveWords → Driving
driving_said words = record { session = words.session.now; player = words.player; old = option_map (λ name. name.now) words.old }

-- the run of this session's file, this player's number, and this log's file, if one is named
abbrev pub driving_named : (session player : List ℕ) → (old : Option (List ℕ)) → Option Driving
driving_named session player old =
    let named : ℕ → Driving = λ p. record { session = session; player = p; old = old } in option_map named (number_of LAST_PLAYER player)

-- the run of the words behind the command's name: `SESSION PLAYER` or `SESSION PLAYER OLD`
abbrev pub driving_in : List (List ℕ) → Option Driving
driving_in (session ∷ player ∷ []) = driving_named session player None
driving_in (session ∷ player ∷ old ∷ []) = driving_named session player (Some old)
driving_in words = None
