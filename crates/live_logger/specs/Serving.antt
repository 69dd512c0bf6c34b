-- Serving: what stands after the calls that shut and write.
use Rattle.std.specs.Prelude.{◌≡◌, ℕ, ◌+◌, ◌<◌, true, false, List, Option, Some, None, length, slice_get, if◌then◌else◌}
use Rattle.socket_station.specs.Items.{Item}
use Rattle.socket_lines.specs.declared.line.Line.{Line}
use Rattle.loop_rules.proofs.Alike.{Alike}
use Rattle.watch_rules.specs.Views.{View}
use Rattle.watch_rules.specs.Licence.{asks_shut}
use Rattle.watch_rules.specs.Rules.{wants_read, wants_write}
use Rattle.live_logger.specs.States.{WatchState}
use Rattle.live_logger.specs.Going.{Goes}

-- no socket is to be read or shut that was not before
abbrev pub AsksNoMore : View → View → Type 0
AsksNoMore v w = (j : ℕ) (x y : Line) → slice_get v.sockets.lines j ≡ Some x → slice_get w.sockets.lines j ≡ Some y →
    (wants_read w y ≡ true → wants_read v x ≡ true) × (asks_shut w y ≡ true → asks_shut v x ≡ true)

-- nothing comes: the logs stay as they are, and so do the sockets but for those that close or are
-- given something
pub record Serves (before after : List Item) (w m : WatchState) : Type 0 where
  pub goes : Goes before after w m
  pub alike : Alike w.view.sockets.lines m.view.sockets.lines
  pub streams : m.view.streams ≡ w.view.streams
  pub asks : AsksNoMore w.view m.view

-- ---- shutting

-- no rule or limit asks to shut one of the sockets before this place
abbrev pub NoneAsks : (n : ℕ) → View → Type 0
NoneAsks n v = (j : ℕ) (l : Line) → j < n → slice_get v.sockets.lines j ≡ Some l → asks_shut v l ≡ false

-- none asks to shut the one at this place
abbrev pub AsksNone : View → (place : ℕ) → Type 0
AsksNone v k = (l : Line) → slice_get v.sockets.lines k ≡ Some l → asks_shut v l ≡ false

-- the socket at the place is shut, if a rule or a limit asks for it
pub record ShutsAt (k : ℕ) (before after : List Item) (w m : WatchState) : Type 0 where
  pub serves : Serves before after w m
  pub out : AsksNone m.view k

-- the same of the sockets before the place
pub record ShutsAll (n : ℕ) (before after : List Item) (w m : WatchState) : Type 0 where
  pub serves : Serves before after w m
  pub none : NoneAsks n m.view

-- ---- writing

-- the line at this place is to be written
abbrev pub WritesAt : View → (place : ℕ) → Type 0
WritesAt v k = (l : Line) → slice_get v.sockets.lines k ≡ Some l → wants_write v l ≡ true

-- it is not to be written
abbrev pub WritesNone : View → (place : ℕ) → Type 0
WritesNone v k = (l : Line) → slice_get v.sockets.lines k ≡ Some l → wants_write v l ≡ false

-- no socket but the one at this place wants a write that wanted none before
abbrev pub NoMoreWrites : (place : ℕ) → View → View → Type 0
NoMoreWrites k v w = (j : ℕ) (x y : Line) → slice_get v.sockets.lines j ≡ Some x → slice_get w.sockets.lines j ≡ Some y → (j ≡ k → ⊥) → wants_write w y ≡ true → wants_write v x ≡ true

-- how many bytes are due on the line, and one more, where it is to be written
abbrev pub work_by : View → Option Line → ℕ
work_by v None = 0
work_by v (Some l) = if wants_write v l then length l.unsent + 1 else 0

-- the same of the line at this place: each write lessens it
abbrev pub work_at : (place : ℕ) → View → ℕ
work_at k v = work_by v (slice_get v.sockets.lines k)

-- one write on the socket at the place
pub record Writes (k : ℕ) (before after : List Item) (w m : WatchState) : Type 0 where
  pub serves : Serves before after w m
  pub no_more : NoMoreWrites k w.view m.view
  pub less : work_at k m.view < work_at k w.view

-- the socket at the place is written until it is not to be written any more
pub record WritesOut (k : ℕ) (before after : List Item) (w m : WatchState) : Type 0 where
  pub serves : Serves before after w m
  pub no_more : NoMoreWrites k w.view m.view
  pub out : WritesNone m.view k

-- none of the sockets before this place is to be written
abbrev pub NoneWrites : (n : ℕ) → View → Type 0
NoneWrites n v = (j : ℕ) (l : Line) → j < n → slice_get v.sockets.lines j ≡ Some l → wants_write v l ≡ false

-- the sockets before this place are written so
pub record WritesAll (n : ℕ) (before after : List Item) (w m : WatchState) : Type 0 where
  pub serves : Serves before after w m
  pub none : NoneWrites n m.view
