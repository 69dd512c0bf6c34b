-- Inside: what holds of a peer's tables.
use Rattle.std.specs.Prelude.{◌≡◌, ℕ, ◌+◌, ◌*◌, ◌<◌, ◌≤◌, List, length, Option}
use Rattle.definitions.specs.declared.world.Track.{Track}
use Rattle.definitions.specs.declared.openings.Opening.{Opening}
use Rattle.definitions.specs.declared.frames.TurnFrame.{TurnFrame}
use Rattle.definitions.specs.declared.logs.Entry.{Entry}
use Rattle.definitions.specs.declared.answers.Need.{Need}
use Rattle.definitions.specs.declared.findings.Finding.{Finding}
use Rattle.definitions.specs.declared.limits.TheConstants.{MOST_TURNS}
use Rattle.definitions.specs.World.{Game, players_of}
use Rattle.definitions.specs.Logs.{made, chosen}
use Rattle.definitions.specs.Held.{resolved_count}
use Rattle.definitions.specs.Honest.{IsHonest}
use Rattle.definitions.specs.Needs.{needs}
use Rattle.grid_world.specs.Places.{reveals_below}
use Rattle.definition_laws.specs.First.{finding_of_log}
use Rattle.definition_laws.specs.Fits.{room_of}
use Rattle.peer_core.specs.OwnTracks.{AreOwnTracks}
use Rattle.peer_core.specs.Others.{Known, AreOthers}

-- the log is honest, and the tables beside it are what it says
pub record IsPeer (game : Game) (me : ℕ) (entries : List Entry) (openings : List Opening) (frames : List TurnFrame) (tracks : List Track) (others : Known) (found : Option Finding) (needs_list : List Need) : Type 0 where
  pub player : me < players_of game
  pub honest : IsHonest game me entries
  pub openings_are : openings ≡ chosen me entries
  pub frames_are : frames ≡ made entries
  pub tracks_are : AreOwnTracks game me entries tracks
  pub others_are : AreOthers game me entries others
  pub found_is : found ≡ finding_of_log game entries
  pub needs_are : needs_list ≡ needs game me entries
  -- what follows of the numbers
  pub few_openings : length openings ≤ game.turns
  pub few_frames : length frames ≤ 2 * game.turns
  pub few_turns : game.turns ≤ MOST_TURNS
  pub tracked : length tracks ≡ length openings + 1
  pub revealed : resolved_count game me entries me ≡ reveals_below game (length frames)

-- there is room for every entry, opening, frame and track of a session
pub record HasRoom (game : Game) (entries openings frames tracks : ℕ) : Type 0 where
  -- one more than an honest log without a finding has, for the entry that makes one
  pub entries_fit : room_of game + 1 ≤ entries
  pub openings_fit : game.turns ≤ openings
  pub frames_fit : 2 * game.turns ≤ frames
  pub tracks_fit : game.turns + 1 ≤ tracks
