-- Frames: each different frame with its first spot in each log, by the player's turn.
use Rattle.std.specs.Prelude.{◌≡◌, ℕ, Bool, ◌&&◌, List, Vec, [], ◌==◌, nat_lt, if◌then◌else◌}
use Rattle.std.specs.Option.{option_map_or}
use Rattle.std.specs.Map.{lookup}
use Rattle.std.specs.Global.{Global}
use Rattle.definitions.specs.declared.limits.TheConstants.{MOST_TURNS}
use Rattle.definitions.specs.declared.findings.Spot.{Spot}
use Rattle.definitions.specs.declared.frames.TurnFrame.{TurnFrame}
use Rattle.definitions.specs.declared.logs.Entry.{Entry}
use Rattle.definitions.specs.World.{Game}
use Rattle.definitions.specs.Logs.{player_of, turn_of}
use Rattle.frame_index.specs.declared.seen.Seen.{Seen}
use Rattle.frame_index.specs.declared.kept.KeptFrame.{KeptFrame}
use Rattle.frame_index.specs.declared.frames.TurnKey.{TurnKey}
use Rattle.frame_index.specs.Keeps.{Keeps}
use Rattle.frame_index.specs.Rows.{kept_by}
use Rattle.frame_index.specs.Kept.{AreAlike, AreOf, AreOnce, Grows, TurnKept, seen_in}

-- the same player's turn
abbrev pub key_eq : TurnKey → TurnKey → Bool
key_eq a b = (a.player == b.player) && (a.turn == b.turn)

-- the frames that are kept of the player's turn behind all that a session may have
abbrev pub kept_beyond : List (TurnKey × TurnKept) → ℕ → ℕ → List KeptFrame
kept_beyond beyond q t = option_map_or (λ v. v.kept.items) (lookup (key_eq (record { player = q; turn = t })) beyond) []

-- an index as contracts see it: what is kept of the turns that a session may have, in rows, and of all turns behind them
pub record IndexState : Type 0 where
  pub rows : List (Vec TurnKept Global)
  pub beyond : List (TurnKey × TurnKept)

-- the frames that are kept of the player's turn
abbrev pub kept_of : IndexState → ℕ → ℕ → List KeptFrame
kept_of index q t = if nat_lt t MOST_TURNS then kept_by index.rows q t else kept_beyond index.beyond q t

-- what is kept of the player's turn, each frame once for each log that got it
abbrev pub kept_in : IndexState → ℕ → ℕ → List Seen
kept_in index q t = seen_in (kept_of index q t)

-- what is kept stands for these logs, each frame is kept under its player's turn, none twice, and none with two spots in one log
pub record IsIndex (game : Game) (logs : List (List Entry)) (index : IndexState) : Type 0 where
  pub stands : (q t : ℕ) → Keeps game q t logs (kept_in index q t)
  pub own : (q t : ℕ) → AreOf game q t (kept_of index q t)
  pub once : (q t : ℕ) → AreOnce (kept_of index q t)

-- the frame is taken at the spot to those of its player's turn, and the others stay, by what is kept before and after
pub record IsTakenBy (game : Game) (f : TurnFrame) (s : Spot) (old new : ℕ → ℕ → List KeptFrame) : Type 0 where
  pub own : Grows game f s (old (player_of f) (turn_of f)) (new (player_of f) (turn_of f))
  pub others : (q t : ℕ) → ((player_of f ≡ q) × (turn_of f ≡ t) → ⊥) → new q t ≡ old q t

abbrev pub IsTaken : Game → TurnFrame → Spot → IndexState → IndexState → Type 0
IsTaken game f s old new = IsTakenBy game f s (kept_of old) (kept_of new)

-- the same is kept of each player's turn
abbrev pub IsRefusedBy : (old new : ℕ → ℕ → List KeptFrame) → Type 0
IsRefusedBy old new = (q t : ℕ) → AreAlike (old q t) (new q t)

abbrev pub IsRefused : IndexState → IndexState → Type 0
IsRefused old new = IsRefusedBy (kept_of old) (kept_of new)

-- what cannot be
abbrev pub Never : Type 0
Never = ⊥
