-- PostLaw: what is promised of `post`: a player of a file's session plays with those of a roster over datagrams, by the moves of a text.
use Rattle.std.specs.Prelude.{◌≡◌, ◌<◌, true, List, Some, Result, Ok}
use Rattle.rand_core.specs.Stream.{Stream}
use Rattle.definitions.specs.declared.logs.Entry.{Entry}
use Rattle.definitions.specs.World.{players_of}
use Rattle.definitions.specs.Findings.{is_clean}
use Rattle.datagram_post.specs.Items.{Item}
use Rattle.pilots.specs.Scripts.{scripted}
use Rattle.own_moves.specs.Choices.{Chooser}
use Rattle.run_frame.specs.Law.{Law}
use Rattle.run_frame.specs.Outside.{Outside}
use Rattle.run_frame.specs.declared.statuses.Status.{Status}
use Rattle.post_rules.specs.Views.{Setting, start}
use Rattle.post_rules.specs.After.{view_after}
use Rattle.post_command.specs.Faults.{FailsNeither}
use Rattle.post_command.specs.Plays as P
use Rattle.seat_files.specs.SeatLaw.{seat_law}
use Rattle.seat_files.specs.Seats.{Seating}
use Rattle.seat_files.specs.Unplayed.{MovesLegally}
use Rattle.seat_files.specs.Words.{Peering}

-- what the loop of a run is given
abbrev pub setting_by : Peering → Seating → Setting
setting_by p s = record { game = s.begins.game; me = p.player; roster = s.roster }

-- what the loop of a run plays with
abbrev pub loop_start : Peering → Seating → P.Start
loop_start p s = record { setting = setting_by p s; log = p.log; polls = p.polls }

-- what it chooses by, where the generator is to give this
abbrev pub chooser_of : Seating → Stream → Chooser
chooser_of s chance = record { plan = Some (scripted s.moves); chance = chance }

-- The loop was played from its first call to its end, of which the run tells.
pub record PlaysOverDatagrams (p : Peering) (due : Result Seating Status) (before after : Outside) (status : Status) : Type 0 where
  pub seating : Seating
  pub due_is : due ≡ Ok seating
  -- the player is one of the session
  pub seated : p.player < players_of seating.begins.game
  pub plays : P.PlayedOut (loop_start p seating) (chooser_of seating before.chance) (chooser_of seating after.chance) after.post before.output after.output status

-- What the run kept in its log, as its post told. (Where a stretch of its history begins, nothing changes in that.)
abbrev pub log_kept : Peering → Seating → List Item → List Entry
log_kept p s items = (view_after (start (setting_by p s)) items).kept

-- The files give something to play by, no call of the log, of binding or of polling failed, the log kept
-- has no finding, and the own move is legal where one is to be chosen. Receives and sends that fail don't
-- matter here.
pub record IsGoodPost (p : Peering) (due : Result Seating Status) (items : List Item) : Type 0 where
  pub seating : Seating
  pub due_is : due ≡ Ok seating
  pub calls : FailsNeither items
  pub clean : is_clean seating.begins.game (log_kept p seating items) ≡ true
  pub legal : MovesLegally seating.begins.game p.player seating.moves (log_kept p seating items)

-- Its files, the answer where nothing is played, the causes, and how it ends where all is good stand in
-- `seat_law`. No law of its own stands behind its answers.
abbrev pub post_law : Peering → Law
post_law p = seat_law p (λ due before after status. PlaysOverDatagrams p due before after status) (λ due answered. IsGoodPost p due answered.post) (Unit {0})
