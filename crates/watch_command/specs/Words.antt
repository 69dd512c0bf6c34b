-- Words: what the words of the command say.
use Rattle.std.specs.Prelude.{ℕ, List, [], ◌∷◌, Option, Some, None}
use Rattle.run_frame.specs.Polls.{polls_granted}
use Rattle.watch_command.specs.declared.words.WatchWords.{WatchWords}

-- a run of the command, by its words
pub record Watching : Type 0 where
  -- the files of the session and of the roster
  pub session : List ℕ
  pub roster : List ℕ
  -- how many polls are granted
  pub polls : ℕ

-- the run that the words say
abbrev pub watching_said : WatchWords → Watching
watching_said words = record { session = words.session.now; roster = words.roster.now; polls = words.polls }

-- the run of these files and these polls
abbrev pub watching_by : (session roster : List ℕ) → (polls : Option ℕ) → Option Watching
watching_by session roster None = None
watching_by session roster (Some polls) = Some (record { session = session; roster = roster; polls = polls })

-- the run of the words after the command's name: `SESSION ROSTER POLLS`
abbrev pub watching_in : List (List ℕ) → Option Watching
watching_in (session ∷ roster ∷ polls ∷ []) = watching_by session roster (polls_granted polls)
watching_in words = None
