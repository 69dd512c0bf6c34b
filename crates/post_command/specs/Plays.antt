-- Plays: what a run makes of the post and the generator.
use Rattle.std.specs.Prelude.{◌≤◌, ◌⊎◌, ℕ, Bool, true, false, List, None, length}
use Rattle.std.specs.List.{count_by}
use Rattle.definitions.specs.Honest.{IsHonest}
use Rattle.station.specs.Sinks.{SinkState}
use Rattle.datagram_post.specs.Items.{Item, Polled}
use Rattle.own_moves.specs.Choices.{Chooser}
use Rattle.run_frame.specs.Frame.{Ends}
use Rattle.run_frame.specs.declared.statuses.Status.{Status}
use Rattle.loop_ends.specs.declared.ends.Ended.{Ended}
use Rattle.post_rules.specs.Views.{Setting}
use Rattle.post_rules.specs.Laws.{view_at}
use Rattle.datagram_loop.specs.States.{LoopState, held_by}
use Rattle.datagram_loop.specs.Playing.{RefusesEnded, StandsEnded}
use Rattle.datagram_loop.specs.Laws.{IsWholeRun}
use Rattle.match_ends.specs.Ends.{match_answer}
use Rattle.seat_files.specs.Unplayed.{MadeNoCall}
use Rattle.post_command.specs.Faults.{StandsByFaults}

-- whether an item tells of a poll that was made
abbrev pub is_polled : Item → Bool
is_polled Polled = true
is_polled _ = false

-- how many polls were made
abbrev pub polls_of : List Item → ℕ
polls_of items = count_by is_polled items

-- what a run plays with: the session, the player and where the others are; the name of the log; and how many polls are granted
pub record Start : Type 0 where
  pub setting : Setting
  pub log : List ℕ
  pub polls : ℕ

-- The loop was begun, with a log of this name, and played to its end.
pub record PlaysOut (s : Start) (by to : Chooser) (ended : Ended) (last : LoopState) (items : List Item) : Type 0 where
  -- its history, in the stretches of its beginning and of its one play, if it played
  pub front : List (List Item)
  pub stretch : List Item
  pub stretches : length front ≤ 1
  -- whether its last own move was refused, by how it ended
  pub refused : Bool
  pub refuses : RefusesEnded ended refused
  -- The history is a whole run, of a log of this name. It is fair. The log kept is the peer's, but for an end of the
  -- log itself, and the choices in it are the pilot's and the generator's.
  pub run : IsWholeRun s.setting s.log by to refused front stretch items last
  -- of no more polls than were granted
  pub few : polls_of items ≤ s.polls
  -- why it ended so, by these polls
  pub stands : StandsEnded by.plan s.polls (polls_of items) ended (view_at s.setting front stretch) last
  -- which failed calls stand behind that
  pub faults : StandsByFaults ended items
  -- the peer of which the end is told is honest, after a fault of the log too
  pub honest : IsHonest last.peer.game last.peer.me last.peer.entries

-- The run played, and wrote the end of its loop.
pub record PlayedOut (s : Start) (by to : Chooser) (items : List Item) (before now : SinkState) (status : Status) : Type 0 where
  pub ended : Ended
  pub last : LoopState
  pub plays : PlaysOut s by to ended last items
  pub written : Ends before now (match_answer None s.polls ended last.peer (held_by last)) status

-- It played, or memory was wanting.
abbrev pub PlaysPost : Start → (by to : Chooser) → (items items' : List Item) → (before now : SinkState) → Status → Type 0
PlaysPost s by to items items' before now status = MadeNoCall Chooser Item by to items items' before now status ⊎ PlayedOut s by to items' before now status
