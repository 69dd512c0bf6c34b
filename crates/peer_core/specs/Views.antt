-- Views: what contracts see of a peer, and what it tells of a player.
use Rattle.std.specs.Prelude.{ℕ, List, [], ◌∷◌, ◌++◌, length, if◌then◌else◌}
use Rattle.definitions.specs.declared.frames.TurnFrame.{TurnFrame}
use Rattle.definitions.specs.declared.logs.Entry.{Entry}
use Rattle.definitions.specs.declared.logs.Entry.TheVariants.{Got}
use Rattle.definitions.specs.World.{Game}
use Rattle.definitions.specs.Moves.{track_after}
use Rattle.definitions.specs.Logs.{chosen}
use Rattle.definitions.specs.Held.{known, resolved_count, next_place}
use Rattle.definitions.specs.Honest.{chosen_track}
use Rattle.definitions.specs.Steps.{is_taken_in}
use Rattle.peer_core.specs.declared.views.Choice.{Choice}
use Rattle.peer_core.specs.declared.views.PlayerView.{PlayerView}

-- a peer: its session, its player and its log
pub record PeerState : Type 0 where
  pub game : Game
  pub me : ℕ
  pub entries : List Entry

-- the turn to be chosen next, and the track after the moves chosen before
abbrev pub choice_of : Game → ℕ → List Entry → Choice
choice_of game me h = record { turn = length (chosen me h); track = chosen_track game me h }

-- the log after a frame came from q: with it, where it is taken in
abbrev pub with_got : Game → ℕ → List Entry → ℕ → TurnFrame → List Entry
with_got game me h q f = if is_taken_in game me h q f then h ++ Got q f ∷ [] else h

-- what the log shows of a player
abbrev pub player_view : Game → ℕ → List Entry → ℕ → PlayerView
player_view game me h q = record {
  turns = resolved_count game me h q;
  track = track_after game q (known game me h q).moves;
  next = next_place game me h q;
}
