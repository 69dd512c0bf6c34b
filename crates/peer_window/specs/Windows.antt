-- Windows: a window as contracts see it, and what becomes of a frame that is offered.
use Rattle.std.specs.Prelude.{◌≡◌, ℕ, ◌*◌, ◌<◌, Bool, true, false, List, [], ◌∷◌, ◌++◌, length, option_to_list, Option, Some, None, ◌==◌, if◌then◌else◌}
use Rattle.std.specs.List.{list_any}
use Rattle.definitions.specs.declared.world.Track.{Track}
use Rattle.definitions.specs.declared.frames.TurnFrame.{TurnFrame}
use Rattle.definitions.specs.World.{Game, players_of}
use Rattle.definitions.specs.Moves.{track_after}
use Rattle.definitions.specs.Logs.{frame_eq}
use Rattle.definitions.specs.Held.{Known, known_to, places_in}
use Rattle.definitions.specs.Answers.{is_beyond, place_of}
use Rattle.peer_window.specs.declared.received.Received.{Received}
use Rattle.grid_world.specs.declared.streams.Stream.{Stream}
use Rattle.definitions.specs.declared.findings.Finding.{Finding}
use Rattle.peer_window.specs.declared.received.Offer.{Offer}
use Rattle.peer_window.specs.declared.received.Offer.TheVariants.{Taken, Stashed, Same, Far, Conflict}
use Rattle.peer_window.specs.Slots.{AreSlots, frames_in, in_order, shown}
use Rattle.peer_window.specs.Clashes.{first_clash}

-- a window: whose frames it holds, how many places the stream has, the frames that came, in order, and what they show
pub record Seen : Type 0 where
  pub player : ℕ
  pub places : ℕ
  pub frames : List Received
  pub known : Known
  pub track : Track
  -- a frame came with which the others show that the player broke the protocol
  pub closed : Bool

-- a window that was made for this game: what it shows is what the definitions say of the frames that it was given
pub record IsWindow (game : Game) (w : Seen) : Type 0 where
  pub player : w.player < players_of game
  pub places : w.places ≡ 2 * game.turns
  pub known : w.known ≡ known_to game w.player (frames_in w.frames) (2 * game.turns)
  pub track : w.track ≡ track_after game w.player w.known.moves
  pub clean : w.closed ≡ false → first_clash game w.player w.frames ≡ None

-- the slots show so much of the stream, and no more
pub record IsHeld (game : Game) (q : ℕ) (ss : List (Option Received)) (at : Stream) : Type 0 where
  pub player : q < players_of game
  pub places : length ss ≡ 2 * game.turns
  pub slots : AreSlots q ss at.commits at.resolved
  pub known : known_to game q (frames_in (in_order ss)) (2 * game.turns) ≡ shown ss at.commits at.resolved
  pub leads : at.track ≡ track_after game q (shown ss at.commits at.resolved).moves

-- the parts of a window: a rival is there only where it is closed
pub record AreParts (q : ℕ) (ss : List (Option Received)) (rival : Option Received) (closed : Bool) (at : Stream) : Type 0 where
  pub slots : AreSlots q ss at.commits at.resolved
  pub alone : closed ≡ false → rival ≡ None

-- what slots show, with the frame that is held beside the one at its place, if there is one
abbrev pub seen_of : ℕ → List (Option Received) → Option Received → Bool → Stream → Seen
seen_of player ss rival closed at = record {
  player = player;
  places = length ss;
  frames = in_order ss ++ option_to_list rival;
  known = shown ss at.commits at.resolved;
  track = at.track;
  closed = closed;
}

-- the frame's place is past the window, or past the last turn
abbrev pub is_far : Game → Seen → TurnFrame → Bool
is_far game w f = is_beyond game (places_in w.known) f

-- an equal frame came before
abbrev pub is_same : Seen → TurnFrame → Bool
is_same w f = list_any (λ r. frame_eq r.frame f) w.frames

-- with the frame added behind those that came
abbrev pub with_frame : Seen → Received → List Received
with_frame w r = w.frames ++ r ∷ []

-- what becomes of a frame that is new, by the first clash that it makes
abbrev pub new_answer : Option Finding → Bool → Offer
new_answer (Some clash) next = Conflict clash
new_answer None next = if next then Taken else Stashed

-- what becomes of a frame that is offered
abbrev pub answer : Game → Seen → Received → Offer
answer game w r =
    if is_far game w r.frame then Far
    else if is_same w r.frame then Same
    else new_answer (first_clash game w.player (with_frame w r)) (place_of game r.frame == places_in w.known)

-- the frames after the offer
abbrev pub frames_after : Seen → Received → Offer → List Received
frames_after w r Taken = with_frame w r
frames_after w r Stashed = with_frame w r
frames_after w r Same = w.frames
frames_after w r Far = w.frames
frames_after w r (Conflict clash) = with_frame w r

-- a frame came that makes a clash
abbrev pub is_conflict : Offer → Bool
is_conflict Taken = false
is_conflict Stashed = false
is_conflict Same = false
is_conflict Far = false
is_conflict (Conflict clash) = true
