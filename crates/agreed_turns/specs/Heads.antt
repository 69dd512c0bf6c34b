-- Heads: how far a log shows a player's stream, and which frame would take it on.
use Rattle.std.specs.Prelude.{◌≡◌, ℕ, ◌+◌, ◌-◌, ◌<◌, Bool, false, is_some, List, ◌++◌, Option, None, Some, slice_get, IsTrue}
use Rattle.std.specs.Option.{option_map_or}
use Rattle.definitions.specs.declared.world.Move.{Move}
use Rattle.definitions.specs.declared.frames.TurnFrame.{TurnFrame}
use Rattle.definitions.specs.declared.frames.What.{What}
use Rattle.definitions.specs.declared.frames.What.TheVariants.{Commit, Reveal}
use Rattle.definitions.specs.declared.openings.Digest.{Digest}
use Rattle.definitions.specs.declared.logs.Entry.{Entry}
use Rattle.definitions.specs.declared.places.Slot.{Slot}
use Rattle.definitions.specs.World.{Game, is_open}
use Rattle.definitions.specs.Logs.{got_of, made}
use Rattle.definitions.specs.Held.{commit_of, known_to, next_known}
use Rattle.grid_world.specs.declared.streams.Stream.{Stream}
use Rattle.grid_world.specs.Streams.{next_of, slot_next}
use Rattle.frame_index.specs.Frames.{IndexState, IsIndex}
use Rattle.frame_index.specs.Openings.{opening_at}
use Rattle.frame_index.specs.Heads.{Ends}
use Rattle.frame_index.specs.Streams.{IsCommitNext, IsReadFrom}
use Rattle.agreed_turns.specs.declared.accords.Accord.{Accord}
use Rattle.agreed_turns.specs.declared.heads.Head.{Head}
use Rattle.agreed_turns.specs.Accords.{noted_from}

-- the index stands for logs of which that of this number has these frames of the player
pub record Shows (game : Game) (index : IndexState) (i q : ℕ) (fs : List TurnFrame) : Type 0 where
  pub logs : List (List Entry)
  pub log : List Entry
  pub stands : IsIndex game logs index
  pub there : slice_get logs i ≡ Some log
  pub frames : got_of q log ≡ fs

-- the one index shows what the log of this number got of the others, and the other one what its owner made
pub record Hold (game : Game) (index made_index : IndexState) (i : ℕ) (h : List Entry) : Type 0 where
  pub of_others : (q : ℕ) → (q ≡ i → ⊥) → Shows game index i q (got_of q h)
  pub of_own : Shows game made_index i i (made h)

-- the reveal opens the digest that is held, by a move that is legal
abbrev pub opens : Game → ℕ → Head → ℕ → TurnFrame → Bool
opens game q h t f = option_map_or (λ d. is_some (opening_at game q h.stream.track d t f)) h.held false

-- the frame stands at the next place of the head
abbrev pub fits_what : Game → ℕ → Head → What → ℕ → TurnFrame → Bool
fits_what game q h Commit t f = is_some (commit_of t f)
fits_what game q h Reveal t f = opens game q h t f

abbrev pub fits_slot : Game → ℕ → Head → Option Slot → TurnFrame → Bool
fits_slot game q h None f = false
fits_slot game q h (Some s) f = fits_what game q h s.what s.turn f

abbrev pub fits : Game → ℕ → Head → TurnFrame → Bool
fits game q h f = fits_slot game q h (slot_next game h.stream) f

-- the head is what all the frames show of the first places, and those that were heeded show no further place
pub record IsAtEnd (game : Game) (q : ℕ) (heeded all : List TurnFrame) (h : Head) : Type 0 where
  pub read : IsReadFrom game q all h.stream
  pub ends : next_known game q heeded (known_to game q all (next_of h.stream)) ≡ known_to game q all (next_of h.stream)
  pub held : (d : Digest) → slice_get (known_to game q all (next_of h.stream)).digests h.stream.resolved ≡ Some d → h.held ≡ Some d

-- the moves of the turns that the frames resolve up to where the stream is
abbrev pub moves_to : Game → ℕ → List TurnFrame → Stream → List Move
moves_to game q fs s = (known_to game q fs (next_of s)).moves

-- the head read on from one stream to a later one, and noted the moves of the turns between
pub record GoesOn (game : Game) (q : ℕ) (fs : List TurnFrame) (s r : Stream) (old new : List Accord) : Type 0 where
  pub read : IsReadFrom game q fs r
  pub moves : List Move
  pub grown : moves_to game q fs r ≡ moves_to game q fs s ++ moves
  pub noted : new ≡ noted_from old s.resolved moves

-- how many commitments and reveals of the session's turns the stream doesn't have
abbrev pub left_of : Game → Stream → ℕ
left_of game s = (game.turns - s.commits) + (game.turns - s.resolved)

-- the next place is that of a reveal
pub record IsRevealNext (game : Game) (s : Stream) : Type 0 where
  pub turn : s.resolved < game.turns
  pub other : IsCommitNext game s → ⊥

-- one place more was read, and its move noted if it is a reveal; or the frames show no place more
abbrev pub Steps : Game → ℕ → List TurnFrame → Stream → Option Stream → (old new : List Accord) → Type 0
Steps game q fs s None old new = Ends game q fs s × (new ≡ old)
Steps game q fs s (Some r) old new = GoesOn game q fs s r old new

-- all tracks end on open cells
abbrev pub AreOpen : Game → List Head → Type 0
AreOpen game hs = (i : ℕ) (h : Head) → slice_get hs i ≡ Some h → IsTrue (is_open game.grid h.stream.track.at)
