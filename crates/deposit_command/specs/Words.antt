-- Words: what the words of the command say.
use Rattle.std.specs.Prelude.{ℕ, List, [], ◌∷◌, Option, Some, None}
use Rattle.text_fields.specs.Numbers.{number_of}
use Rattle.run_frame.specs.Polls.{polls_granted}
use Rattle.deposit_command.specs.declared.words.TheConstants.{LAST_PLAYER}
use Rattle.deposit_command.specs.declared.words.DepositWords.{DepositWords}

-- a run of the command, by its words
pub record Depositing : Type 0 where
  -- the files of the session and of the roster
  pub session : List ℕ
  pub roster : List ℕ
  pub player : ℕ
  -- how many polls are granted
  pub polls : ℕ
  -- the file of the log
  pub log : List ℕ

-- the run that the words say
abbrev pub depositing_said : DepositWords → Depositing
depositing_said words = record {
  session = words.session.now;
  roster = words.roster.now;
  player = words.player;
  polls = words.polls;
  log = words.log.now;
}

-- the run of these files, this player and these polls
abbrev pub depositing_by : (session roster : List ℕ) → (player polls : Option ℕ) → (log : List ℕ) → Option Depositing
depositing_by session roster None polls log = None
depositing_by session roster (Some player) None log = None
depositing_by session roster (Some player) (Some polls) log =
    Some (record { session = session; roster = roster; player = player; polls = polls; log = log })

-- the run of the words after the command's name: `SESSION ROSTER PLAYER POLLS LOG`
abbrev pub depositing_in : List (List ℕ) → Option Depositing
depositing_in (session ∷ roster ∷ player ∷ polls ∷ log ∷ []) =
    depositing_by session roster (number_of LAST_PLAYER player) (polls_granted polls) log
depositing_in words = None
