-- PeerLaw: what is promised of `peer`: a player of a file's session plays with those of a roster over sockets, by the moves of a text, from an
-- older log on, if one is named.
use Rattle.std.specs.Prelude.{◌≡◌, ◌<◌, true, List, Some, Result, Ok}
use Rattle.rand_core.specs.Stream.{Stream}
use Rattle.definitions.specs.declared.logs.Entry.{Entry}
use Rattle.definitions.specs.World.{players_of}
use Rattle.definitions.specs.Honest.{IsHonest}
use Rattle.definitions.specs.Findings.{is_clean}
use Rattle.socket_station.specs.Items.{Item}
use Rattle.pilots.specs.Scripts.{scripted}
use Rattle.run_frame.specs.Law.{Law}
use Rattle.run_frame.specs.Outside.{Outside}
use Rattle.run_frame.specs.declared.statuses.Status.{Status}
use Rattle.loop_rules.specs.After.{view_of}
use Rattle.ready_loop.specs.Beginning.{given_by}
use Rattle.own_moves.specs.Choices.{Chooser}
use Rattle.peer_command.specs.Crashes.{CrashesAreSurvived, NothingIsGivenUnsynced}
use Rattle.peer_command.specs.Faults.{FailsNeither}
use Rattle.peer_command.specs.Plays as P
use Rattle.seat_files.specs.SeatLaw.{seat_law}
use Rattle.seat_files.specs.Seats.{Seating}
use Rattle.seat_files.specs.Unplayed.{MovesLegally}
use Rattle.seat_files.specs.Words.{Peering}

-- what the loop of a run plays with
abbrev pub loop_start : Peering → Seating → P.Start
loop_start p s = record {
  peer = record { game = s.begins.game; me = p.player; entries = s.begins.first };
  roster = s.roster;
  dropped = s.begins.dropped;
  log = p.log;
  polls = p.polls;
}

-- what it chooses by, where the generator is to give this
abbrev pub chooser_of : Seating → Stream → Chooser
chooser_of s chance = record { plan = Some (scripted s.moves); chance = chance }

-- The loop was played from its first call to its end, of which the run tells.
pub record PlaysOverSockets (p : Peering) (due : Result Seating Status) (before after : Outside) (status : Status) : Type 0 where
  pub seating : Seating
  pub due_is : due ≡ Ok seating
  -- the player is one of the session, and an honest player may have the log that it goes on from
  pub seated : p.player < players_of seating.begins.game
  pub honest : IsHonest seating.begins.game p.player seating.begins.first
  pub plays : P.PlayedOut (loop_start p seating) (chooser_of seating before.chance) (chooser_of seating after.chance) after.station before.output after.output status

-- what the run kept in its log, as its station told
abbrev pub log_kept : Peering → Seating → List Item → List Entry
log_kept p s items = (view_of (given_by (loop_start p s).peer s.roster) items).kept

-- The files give something to play by, no call of the log, of listening or of polling failed, the
-- log kept has no finding, and the own move is legal where one is to be chosen. Links that fail and
-- dials that nobody answers don't matter here.
pub record IsGoodMatch (p : Peering) (due : Result Seating Status) (items : List Item) : Type 0 where
  pub seating : Seating
  pub due_is : due ≡ Ok seating
  pub calls : FailsNeither items
  pub clean : is_clean seating.begins.game (log_kept p seating items) ≡ true
  pub legal : MovesLegally seating.begins.game p.player seating.moves (log_kept p seating items)

-- What is so of every history of a loop, and so of that of the run.
pub record IsLasting : Type 0 where
  -- whenever the run is stopped, and whatever a crash leaves of its log, the player goes on from that and has all that it gave
  pub crashes : CrashesAreSurvived
  -- and until the first sync it gave no byte of an own frame
  pub unsynced : NothingIsGivenUnsynced

-- Its files, the answer where nothing is played, the causes, and how it ends where all is good stand in `seat_law`.
abbrev pub peer_law : Peering → Law
peer_law p = seat_law p (λ due before after status. PlaysOverSockets p due before after status) (λ due answered. IsGoodMatch p due answered.station) IsLasting
