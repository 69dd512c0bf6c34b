-- States: what a loop knows, and what its station told by then.
use Rattle.std.specs.Prelude.{◌≡◌, ◌≤◌, ◌*◌, ◌<◌, ℕ, List, drop, length, take}
use Rattle.std.specs.List.{fold}
use Rattle.definitions.specs.Lists.{EachIs}
use Rattle.definitions.specs.declared.logs.Entry.{Entry}
use Rattle.definitions.specs.declared.openings.Opening.{Opening}
use Rattle.definitions.specs.World.{Game, players_of}
use Rattle.definitions.specs.Logs.{chosen}
use Rattle.rosters.specs.Rosters.{Neighbours}
use Rattle.session_log.specs.Writing.{Writing, fresh}
use Rattle.session_log.specs.Writing as W
use Rattle.peer_core.specs.Views.{PeerState}
use Rattle.socket_lines.specs.declared.seat.Seat.{Seat}
use Rattle.peer_rules.specs.declared.arrivals.Arrival.{Arrival}
use Rattle.peer_rules.specs.declared.phases.Phase.{Phase}
use Rattle.peer_rules.specs.declared.phases.Phase.TheVariants.{KeepFault}
use Rattle.loop_rules.specs.Settings.{Setting}
use Rattle.loop_rules.specs.Tables.{Table}
use Rattle.loop_rules.specs.Told.{DiffersBy}
use Rattle.loop_rules.specs.Views.{View}
use Rattle.loop_rules.specs.Handling.{sorted, IsOfOther}

pub record LoopState : Type 0 where
  pub peer : PeerState
  pub roster : Neighbours
  -- how many entries the peer had when the loop was made, how many are kept, and how many of these the last sync found
  pub over : ℕ
  pub kept : ℕ
  pub synced : ℕ
  pub phase : Phase
  pub table : Table
  -- how many of the frames that wait are handled
  pub handled : ℕ

-- what the loop was given
abbrev pub setting_of : LoopState → Setting
setting_of l = record { game = l.peer.game; me = l.peer.me; roster = l.roster; over = take l.over l.peer.entries }

-- the entries kept
abbrev pub kept_of : LoopState → List Entry
kept_of l = take l.kept l.peer.entries

-- the own moves that are chosen
abbrev pub choices_of : LoopState → List Opening
choices_of l = chosen l.peer.me l.peer.entries

-- what writes the next entry
abbrev pub writer_of : LoopState → Writing
writer_of l = fold W.after (fresh l.peer.game.id l.peer.me) (kept_of l)

-- the view, but for the frames that came and are not handled yet
abbrev pub base_of : LoopState → View
base_of l = record { setting = setting_of l; phase = l.phase; kept = kept_of l; synced = l.synced; writer = writer_of l; table = l.table }

-- the frames that came and are not handled yet
abbrev pub rest_of : LoopState → List Arrival
rest_of l = drop l.handled l.table.waiting

-- what the history shows: those of the frames that make no entry count as handled at once
abbrev pub view_of : LoopState → View
view_of l = sorted (rest_of l) (base_of l)

-- ---- what holds of every loop

-- the seat is another player's, and no place past the last one is asked for
pub record IsOthers (game : Game) (me : ℕ) (c : Seat) : Type 0 where
  pub player : c.link.player < players_of game
  pub other : c.link.player ≡ me → ⊥
  pub most : c.asks.most ≡ 2 * game.turns

pub record IsFit (l : LoopState) (w : Writing) : Type 0 where
  pub over : l.over ≤ length l.peer.entries
  pub kept : l.kept ≤ length l.peer.entries
  pub synced : l.synced ≤ l.kept
  pub seats : EachIs (IsOthers l.peer.game l.peer.me) l.table.seats
  pub differ : DiffersBy (λ c. c.link.player) l.table.seats
  pub waiting : EachIs (IsOfOther l.peer.game l.peer.me) l.table.waiting
  -- after a keep that failed nothing more is written
  pub writer : (l.phase ≡ KeepFault → ⊥) → w ≡ writer_of l
