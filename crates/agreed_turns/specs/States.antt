-- States: what contracts see of the agreed turns, and for which logs it stands.
use Rattle.std.specs.Prelude.{◌≡◌, ℕ, ◌<◌, List, [], ◌∷◌, ◌++◌, length, Some, if◌then◌else◌, set, slice_get, ◌==◌}
use Rattle.definitions.specs.declared.frames.TurnFrame.{TurnFrame}
use Rattle.definitions.specs.declared.logs.Entry.{Entry}
use Rattle.definitions.specs.Lists.{item_or}
use Rattle.definitions.specs.World.{Game, players_of}
use Rattle.definitions.specs.Logs.{frames_of}
use Rattle.agreed_turns.specs.declared.accords.Accord.{Accord}
use Rattle.agreed_turns.specs.declared.heads.Head.{Head}
use Rattle.agreed_turns.specs.Accords.{accord_of}
use Rattle.agreed_turns.specs.Agreed.{moves_given}
use Rattle.frame_index.specs.Frames.{IndexState}
use Rattle.agreed_turns.specs.Heads.{AreOpen, GoesOn, IsAtEnd, Shows}

-- of one player: how far each log shows its stream, and of each turn whether the logs agree
pub record PlayerState : Type 0 where
  pub heads : List Head
  pub accords : List Accord

-- the session, and its players
pub record AgreedState : Type 0 where
  pub game : Game
  pub players : List PlayerState

-- a head for each log, an accord for each turn, and tracks that end on open cells
pub record IsSound (game : Game) (p : PlayerState) : Type 0 where
  pub heads : length p.heads ≡ players_of game
  pub accords : length p.accords ≡ game.turns
  pub tracks : AreOpen game p.heads

-- so it is with each player of the session
pub record AreSound (game : Game) (ps : List PlayerState) : Type 0 where
  pub many : length ps ≡ players_of game
  pub each : (q : ℕ) (p : PlayerState) → slice_get ps q ≡ Some p → IsSound game p

-- the frames of the player's stream that the log of this number has
abbrev pub shown : List (List Entry) → ℕ → ℕ → List TurnFrame
shown logs q i = frames_of i q (item_or logs i [])

-- of the player: all that the logs show
pub record IsOfPlayer (game : Game) (logs : List (List Entry)) (q : ℕ) (p : PlayerState) : Type 0 where
  pub heads : (i : ℕ) (h : Head) → slice_get p.heads i ≡ Some h → IsAtEnd game q (shown logs q i) (shown logs q i) h
  pub accords : (t : ℕ) → t < game.turns → slice_get p.accords t ≡ Some (accord_of (moves_given game logs q t))

-- these are the agreed turns of the logs, of which there is one for each player
pub record IsOf (game : Game) (logs : List (List Entry)) (a : AgreedState) : Type 0 where
  pub session : a.game ≡ game
  pub many : length logs ≡ players_of game
  pub each : (q : ℕ) (p : PlayerState) → slice_get a.players q ≡ Some p → IsOfPlayer game logs q p

-- The head of the log is at the end of the frames that were heeded, with one more, where it was at the end of those before; all that the log
-- has are those that the index shows. The other heads stay, and the accords have the moves of the turns that the head came past.
pub record Heeded (game : Game) (q i : ℕ) (before all : List TurnFrame) (f : TurnFrame) (old new : PlayerState) (h : Head) : Type 0 where
  pub head : Head
  pub heads : new.heads ≡ set old.heads i head
  pub at_end : IsAtEnd game q (before ++ f ∷ []) all head
  pub on : GoesOn game q all h.stream head.stream old.accords new.accords

abbrev pub Heeds : Game → IndexState → ℕ → ℕ → TurnFrame → (old new : PlayerState) → Type 0
Heeds game index q i f old new = (before all behind : List TurnFrame) (h : Head) → Shows game index i q all → all ≡ before ++ f ∷ behind →
    slice_get old.heads i ≡ Some h → IsAtEnd game q before all h → Heeded game q i before all f old new h

-- the frame is heeded of its player, and all other players stay as they are
pub record HeedsFrame (game : Game) (index : IndexState) (q i : ℕ) (f : TurnFrame) (old new : List PlayerState) : Type 0 where
  pub many : length new ≡ length old
  pub others : (r : ℕ) → (r ≡ q → ⊥) → slice_get new r ≡ slice_get old r
  pub own : (p r : PlayerState) → slice_get old q ≡ Some p → slice_get new q ≡ Some r → Heeds game index q i f p r

-- what shows the player's frames in the log of this number: what its owner made of its own, and what it got of another's
abbrev pub index_of : (got_index made_index : IndexState) → ℕ → ℕ → IndexState
index_of got_index made_index i q = if q == i then made_index else got_index

-- the entry of the log of this number is heeded: of the player in whose stream it has a frame, and all other players stay as they are
pub record HeedsEntry (game : Game) (got_index made_index : IndexState) (i : ℕ) (e : Entry) (old new : List PlayerState) : Type 0 where
  pub many : length new ≡ length old
  pub shown : (q : ℕ) (f : TurnFrame) (p r : PlayerState) → frames_of i q (e ∷ []) ≡ f ∷ [] → slice_get old q ≡ Some p → slice_get new q ≡ Some r →
      Heeds game (index_of got_index made_index i q) q i f p r
  pub others : (q : ℕ) → frames_of i q (e ∷ []) ≡ [] → slice_get new q ≡ slice_get old q
