-- Words: what the words say of a peer's run.
use Rattle.std.specs.Prelude.{ℕ, List, [], ◌∷◌, Option, Some, None, option_map}
use Rattle.text_fields.specs.Numbers.{number_of}
use Rattle.run_frame.specs.Polls.{polls_granted}
use Rattle.seat_files.specs.declared.words.TheConstants.{LAST_PLAYER}
use Rattle.seat_files.specs.declared.words.PeerWords.{PeerWords}
use Rattle.seat_files.specs.declared.words.PostWords.{PostWords}

-- a peer's run, by its words
pub record Peering : Type 0 where
  -- the files of the session, of the roster, and of the moves
  pub session : List ℕ
  pub roster : List ℕ
  pub moves : List ℕ
  pub player : ℕ
  -- how many polls are granted
  pub polls : ℕ
  -- the name of the log that is begun
  pub log : List ℕ
  -- the file of a log to go on from, if one is named
  pub old : Option (List ℕ)

-- the run that the words say
abbrev pub peering_said : PeerWords → Peering
peering_said words = record {
  session = words.session.now;
  roster = words.roster.now;
  moves = words.moves.now;
  player = words.player;
  polls = words.polls;
  log = words.log.now;
  old = option_map (λ name. name.now) words.old;
}

-- the same, where no older log may be named
abbrev pub posting_said : PostWords → Peering
posting_said words = record {
  session = words.session.now;
  roster = words.roster.now;
  moves = words.moves.now;
  player = words.player;
  polls = words.polls;
  log = words.log.now;
  old = None;
}

-- the run of these files, this player and these polls, this log's name, and the file of an older log, if one is named
abbrev pub peering_by : (session roster moves : List ℕ) → (player polls : Option ℕ) → (log : List ℕ) → (old : Option (List ℕ)) → Option Peering
peering_by session roster moves None polls log old = None
peering_by session roster moves (Some player) None log old = None
peering_by session roster moves (Some player) (Some polls) log old =
    Some (record { session = session; roster = roster; moves = moves; player = player; polls = polls; log = log; old = old })

abbrev pub peering_named : (session roster moves player polls log : List ℕ) → (old : Option (List ℕ)) → Option Peering
peering_named session roster moves player polls log old = peering_by session roster moves (number_of LAST_PLAYER player) (polls_granted polls) log old

-- the run of the words after the command's name: `SESSION ROSTER MOVES PLAYER POLLS LOG`, or these and `OLD`
abbrev pub peering_in : List (List ℕ) → Option Peering
peering_in (session ∷ roster ∷ moves ∷ player ∷ polls ∷ log ∷ []) = peering_named session roster moves player polls log None
peering_in (session ∷ roster ∷ moves ∷ player ∷ polls ∷ log ∷ old ∷ []) = peering_named session roster moves player polls log (Some old)
peering_in words = None

-- the run of the words after the command's name, where no older log may be named: `SESSION ROSTER MOVES PLAYER POLLS LOG`
abbrev pub posting_in : List (List ℕ) → Option Peering
posting_in (session ∷ roster ∷ moves ∷ player ∷ polls ∷ log ∷ []) = peering_named session roster moves player polls log None
posting_in words = None
