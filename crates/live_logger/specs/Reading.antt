-- Reading: what stands after the calls that read.
use Rattle.std.specs.Prelude.{◌≡◌, ℕ, ◌+◌, ◌<◌, true, false, List, Option, Some, None, take, slice_get, if◌then◌else◌}
use Rattle.definitions.specs.declared.limits.TheConstants.{LONGEST_LOG}
use Rattle.socket_station.specs.Items.{Item}
use Rattle.socket_station.specs.declared.answers.SocketRead.{SocketRead}
use Rattle.socket_station.specs.declared.answers.SocketRead.TheVariants as R
use Rattle.socket_lines.specs.declared.line.Line.{Line}
use Rattle.socket_lines.specs.Lines.{closed, quieted}
use Rattle.loop_rules.proofs.Alike.{Alike}
use Rattle.watch_rules.specs.Views.{View}
use Rattle.watch_rules.specs.Hearing.{room_on, took_by}
use Rattle.watch_rules.specs.After.{on_line}
use Rattle.watch_rules.specs.Rules.{wants_read}
use Rattle.live_logger.specs.States.{WatchState}
use Rattle.live_logger.specs.Going.{Goes}

-- a read of the socket with this line answered this
abbrev pub read_by : View → Line → (s : ℕ) → SocketRead → (buf : List ℕ) → View
read_by v l s (R.Took count) buf = took_by v s (take count buf) l l.name
read_by v l s R.NotYet buf = on_line s quieted v
read_by v l s R.Ended buf = on_line s closed v
read_by v l s R.Failed buf = on_line s closed v

-- the line at this place is to be read
abbrev pub WantsAt : View → (place : ℕ) → Type 0
WantsAt v k = (l : Line) → slice_get v.sockets.lines k ≡ Some l → wants_read v l ≡ true

-- it is not to be read
abbrev pub WantsNone : View → (place : ℕ) → Type 0
WantsNone v k = (l : Line) → slice_get v.sockets.lines k ≡ Some l → wants_read v l ≡ false

-- no socket but the one at this place wants a read that wanted none before
abbrev pub NoMoreReads : (place : ℕ) → View → View → Type 0
NoMoreReads k v w = (j : ℕ) (x y : Line) → slice_get v.sockets.lines j ≡ Some x → slice_get w.sockets.lines j ≡ Some y → (j ≡ k → ⊥) → wants_read w y ≡ true → wants_read v x ≡ true

-- a line without a name may still get that of a player of whom nothing came
abbrev pub more_unnamed : Option ℕ → ℕ
more_unnamed None = LONGEST_LOG + 1
more_unnamed (Some q) = 0

-- how many bytes may still be taken on the line at most, and one more, where it is to be read
abbrev pub left_by : View → Option Line → ℕ
left_by v None = 0
left_by v (Some l) = if wants_read v l then (room_on v l + more_unnamed l.name) + 1 else 0

-- the same of the line at this place: each read lessens it
abbrev pub left_at : (place : ℕ) → View → ℕ
left_at k v = left_by v (slice_get v.sockets.lines k)

-- one read of the socket at the place, and what it brought heard
pub record Reads (k : ℕ) (before after : List Item) (w m : WatchState) : Type 0 where
  pub goes : Goes before after w m
  pub alike : Alike w.view.sockets.lines m.view.sockets.lines
  pub no_more : NoMoreReads k w.view m.view
  pub less : left_at k m.view < left_at k w.view

-- the socket at the place is read until it is not to be read any more
pub record ReadsOut (k : ℕ) (before after : List Item) (w m : WatchState) : Type 0 where
  pub goes : Goes before after w m
  pub alike : Alike w.view.sockets.lines m.view.sockets.lines
  pub no_more : NoMoreReads k w.view m.view
  pub out : WantsNone m.view k

-- none of the sockets before this place is to be read
abbrev pub NoneReads : (n : ℕ) → View → Type 0
NoneReads n v = (j : ℕ) (l : Line) → j < n → slice_get v.sockets.lines j ≡ Some l → wants_read v l ≡ false

-- the sockets before this place are read so
pub record ReadsAll (n : ℕ) (before after : List Item) (w m : WatchState) : Type 0 where
  pub goes : Goes before after w m
  pub alike : Alike w.view.sockets.lines m.view.sockets.lines
  pub none : NoneReads n m.view
