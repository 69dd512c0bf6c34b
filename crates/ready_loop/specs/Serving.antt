-- Serving: what stands after the calls that shut, write and dial.
use Rattle.std.specs.Prelude.{◌≡◌, ℕ, ◌+◌, ◌<◌, Bool, true, not, List, [], ◌∷◌, ◌++◌, Option, Some, None, slice_get, if◌then◌else◌}
use Rattle.definitions.specs.declared.frames.TurnFrame.{TurnFrame}
use Rattle.definitions.specs.Logs as L
use Rattle.definitions.specs.Findings.{is_clean}
use Rattle.socket_station.specs.Items.{Item, write_item}
use Rattle.socket_station.specs.Withins.{GivesWithin}
use Rattle.socket_station.specs.declared.answers.SocketWrite.{SocketWrite}
use Rattle.socket_lines.specs.declared.line.Line.{Line}
use Rattle.socket_lines.specs.declared.seat.Seat.{Seat}
use Rattle.socket_lines.specs.Lines.{closed}
use Rattle.socket_lines.specs.Giving.{Desk, Speaker}
use Rattle.loop_rules.specs.Tables.{Table, at_line, desk_of}
use Rattle.loop_rules.specs.Licence.{all_is_shut, all_is_given, all_are_reached, is_served_out}
use Rattle.loop_rules.specs.Rules.{wants_dial, due_at}
use Rattle.loop_rules.specs.Told.{IsTold}
use Rattle.socket_table.specs.Staying.{Milder, work_on}
use Rattle.definitions.specs.Honest.{made_count}
use Rattle.ready_loop.specs.States.{LoopState, view_of}
use Rattle.ready_loop.specs.Steps.{with_table, wrote_on}
use Rattle.ready_loop.specs.Going.{Goes, IsSteady, undialled}

-- who speaks on the sockets
abbrev pub speaker_by : LoopState → Speaker
speaker_by l = record { id = l.peer.game.id; me = l.peer.me }

-- before sockets are shut, written and dialled: nothing is left to be handled, made, kept or synced, and the log has no finding
pub record IsServing (items : List Item) (l : LoopState) : Type 0 where
  pub told : IsTold items (view_of l)
  pub steady : IsSteady l
  pub clean : is_clean l.peer.game l.peer.entries ≡ true
  pub synced : l.synced ≡ l.kept

-- nothing changes but the table of sockets, in which none opens and nothing more is due
pub record Serves (before after : List Item) (l m : LoopState) : Type 0 where
  pub goes : Goes before after l m
  pub same : m ≡ with_table m.table l
  pub milder : Milder l.table m.table
  pub waiting : m.table.waiting ≡ l.table.waiting

-- one socket is shut
pub record Shuts (s : ℕ) (before after : List Item) (l m : LoopState) : Type 0 where
  pub serves : Serves before after l m
  pub table : m.table ≡ at_line s closed l.table

pub record ShutsAll (before after : List Item) (l m : LoopState) : Type 0 where
  pub serves : Serves before after l m
  pub shut : all_is_shut m.table ≡ true

-- ---- writing

-- the own frame at the cursor of the line, as far as they are made
abbrev pub own_by : LoopState → Line → Option TurnFrame
own_by l x = slice_get (L.made l.peer.entries) x.cursor

-- one write on the socket
pub record WritesOnce (s k : ℕ) (before after : List Item) (l m : LoopState) : Type 0 where
  pub write : SocketWrite
  pub line : Line
  pub here : slice_get l.table.lines k ≡ Some line
  pub told : after ≡ before ++ write_item s write (due_at (speaker_by l) (own_by l line) (desk_of l.table line)) ∷ []
  pub within : GivesWithin write (due_at (speaker_by l) (own_by l line) (desk_of l.table line))
  pub state : m ≡ with_table (wrote_on (speaker_by l) (own_by l line) s write (desk_of l.table line) l.table) l

-- the line is to be written: it is open, and no write was refused, and something is due on it
abbrev pub wants_write : (made : ℕ) → Table → Line → Bool
wants_write made t x = not (is_served_out made t x)

abbrev pub WritesAt : LoopState → (place : ℕ) → Type 0
WritesAt l k = (x : Line) → slice_get l.table.lines k ≡ Some x → wants_write (made_count l.peer.entries) l.table x ≡ true

abbrev pub ServedAt : LoopState → (place : ℕ) → Type 0
ServedAt l k = (x : Line) → slice_get l.table.lines k ≡ Some x → is_served_out (made_count l.peer.entries) l.table x ≡ true

abbrev pub work_by : (made : ℕ) → Option Desk → ℕ
work_by made None = 0
work_by made (Some d) = work_on made d

-- how much is to be written on the line at the place, and one more where it is to be written
abbrev pub work_with : (made : ℕ) → Table → Option Line → ℕ
work_with made t None = 0
work_with made t (Some x) = if wants_write made t x then work_by made (desk_of t x) + 1 else 0

abbrev pub work_at : (place : ℕ) → LoopState → ℕ
work_at k l = work_with (made_count l.peer.entries) l.table (slice_get l.table.lines k)

-- what was served out on other sockets still is
abbrev pub ServedBeside : (s : ℕ) → (l m : LoopState) → Type 0
ServedBeside s l m = (k : ℕ) (x y : Line) → slice_get l.table.lines k ≡ Some x → slice_get m.table.lines k ≡ Some y → (x.socket ≡ s → ⊥) →
    is_served_out (made_count l.peer.entries) l.table x ≡ true → is_served_out (made_count m.peer.entries) m.table y ≡ true

pub record Writes (k s : ℕ) (before after : List Item) (l m : LoopState) : Type 0 where
  pub serves : Serves before after l m
  pub beside : ServedBeside s l m
  pub less : work_at k m < work_at k l

pub record WritesOut (k s : ℕ) (before after : List Item) (l m : LoopState) : Type 0 where
  pub serves : Serves before after l m
  pub beside : ServedBeside s l m
  pub out : ServedAt m k

pub record WritesAll (before after : List Item) (l m : LoopState) : Type 0 where
  pub serves : Serves before after l m
  pub given : all_is_given (made_count m.peer.entries) m.table ≡ true

-- ---- dialling

-- the player of the seat at this place is to be dialled, or none is
abbrev pub IsNextDial : LoopState → Option ℕ → Type 0
IsNextDial l None = all_are_reached l.peer.me l.table ≡ true
IsNextDial l (Some k) = (c : Seat) × (slice_get l.table.seats k ≡ Some c) × (wants_dial l.peer.me l.table c ≡ true)

-- the player of one seat is dialled
pub record Dials (before after : List Item) (l m : LoopState) : Type 0 where
  pub goes : Goes before after l m
  pub serving : IsServing after m
  pub less : undialled m < undialled l
