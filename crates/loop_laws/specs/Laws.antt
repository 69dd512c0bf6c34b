-- Laws: what each history says, by its items alone.
use Rattle.std.specs.Prelude.{◌≡◌, ◌⊎◌, ◌<◌, ◌+◌, ◌≤◌, ℕ, length, List, [], ◌∷◌, ◌++◌, Some, flat_map}
use Rattle.std.specs.List.{count_by}
use Rattle.definitions.specs.Lists.{EachIs}
use Rattle.definitions.specs.declared.logs.Entry.{Entry}
use Rattle.definitions.specs.Logs.{made}
use Rattle.wire_frames.specs.declared.frames.Frame.{Frame}
use Rattle.wire_frames.specs.declared.frames.Frame.TheVariants.{Hello}
use Rattle.wire_frames.specs.Spelling.{spelling}
use Rattle.session_log.specs.Spelling.{log_bytes}
use Rattle.socket_station.specs.declared.answers.Addr.{Addr}
use Rattle.socket_station.specs.Items.{Item, Dialled, Took, Gave, ReadNotYet, Shut, Synced, WriteNotYet}
use Rattle.socket_station.specs.Moved.{given_in, kept_in, synced_in, taken_in}
use Rattle.socket_lines.specs.declared.limits.TheConstants.{HELLO_BYTES}
use Rattle.socket_lines.specs.declared.seat.Seat.{Seat}
use Rattle.loop_rules.specs.Settings.{Setting}
use Rattle.loop_rules.specs.Tables.{seat_of}
use Rattle.loop_rules.specs.After.{view_of}
use Rattle.loop_rules.specs.Histories.{IsHistory}
use Rattle.loop_laws.specs.Sockets.{SocketsAreNew, came_on, dialled_for}
use Rattle.loop_laws.specs.Speaking.{IsAsked, Speaks}
use Rattle.loop_laws.specs.Handling.{GoesOn, Handles, turns_of}
use Rattle.loop_laws.specs.Counting.{IsReachedOn}
use Rattle.loop_laws.specs.Listing.{IsRead, IsWrite, Lists, SomeIs}
use Rattle.loop_laws.specs.Dialling.{IsDialFor, IsPoll, IsToBeDialled}
use Rattle.loop_laws.specs.Paying.{Closes, IsKept, Touches}
use Rattle.loop_laws.specs.Causes.{HasCause, IsReadUp}
use Rattle.loop_laws.specs.Tallies.{all_given, all_taken, is_closing, is_dial, is_give, is_idle_read, is_idle_write, is_keep, is_listing, is_poll, is_sync, is_take}

-- The bytes given on the socket are the first ones of these frames' spellings, one after the
-- other, where the own frames are those of the log that was kept and then synced.
pub record GivesFrames (s : Setting) (items : List Item) (socket : ℕ) : Type 0 where
  pub log : List Entry
  pub frames : List Frame
  -- what is not given of the last one
  pub unsent : List ℕ
  pub synced : synced_in items ≡ log_bytes s.game.id s.me log
  pub given : given_in socket items ++ unsent ≡ flat_map spelling frames
  pub speaks : Speaks s (made log) (dialled_for socket items) (came_on socket items) frames

-- in each history frames alone are given, on each socket, as they may be given there
abbrev pub FramesAreGiven : Type 0
FramesAreGiven = (s : Setting) (items : List Item) (socket : ℕ) → SocketsAreNew items →
    IsHistory s items → GivesFrames s items socket

-- The bytes that were taken on the player's socket bring these frames after those that came
-- before, and the entries that were kept after them handle those of turns.
pub record HandlesFrames (s : Setting) (before : List Item) (socket q : ℕ) (bytes : List ℕ)
    (between : List Item) : Type 0 where
  pub frames : List Frame
  pub log : List Entry
  pub added : List Entry
  pub came : came_on socket (before ++ Took socket bytes ∷ []) ≡ came_on socket before ++ frames
  pub kept : kept_in before ≡ log_bytes s.game.id s.me log
  pub kept_then : kept_in (before ++ Took socket bytes ∷ between) ≡ log_bytes s.game.id s.me (log ++ added)
  pub handles : Handles s.game s.me q log (turns_of q frames) added

-- Where a HELLO of the player came first on a socket, and then bytes are taken there, their
-- frames are handled before the loop takes further bytes or polls. Until a HELLO came no more is
-- read of a socket than that has, so no frame comes in one piece with it.
abbrev pub FramesAreHandled : Type 0
FramesAreHandled = (s : Setting) (before between more : List Item) (socket q : ℕ) (bytes : List ℕ)
    (last : Item) (id pass : List ℕ) (next : ℕ) (rest : List Frame) →
    SocketsAreNew (before ++ Took socket bytes ∷ (between ++ last ∷ more)) →
    IsHistory s (before ++ Took socket bytes ∷ (between ++ last ∷ more)) →
    came_on socket before ≡ Hello id q pass next ∷ rest →
    EachIs (λ item. GoesOn item → ⊥) between → GoesOn last →
    HandlesFrames s before socket q bytes between

-- between a read that found nothing and the next read of the socket a poll listed it
abbrev pub ReadsAreListed : Type 0
ReadsAreListed = (s : Setting) (before between more : List Item) (socket : ℕ) (next : Item) →
    SocketsAreNew (before ++ ReadNotYet socket ∷ (between ++ next ∷ more)) →
    IsHistory s (before ++ ReadNotYet socket ∷ (between ++ next ∷ more)) → IsRead socket next →
    SomeIs (Lists socket) between

-- and so it is between a write that was refused and the next write
abbrev pub WritesAreListed : Type 0
WritesAreListed = (s : Setting) (before between more : List Item) (socket : ℕ) (next : Item) →
    SocketsAreNew (before ++ WriteNotYet socket ∷ (between ++ next ∷ more)) →
    IsHistory s (before ++ WriteNotYet socket ∷ (between ++ next ∷ more)) → IsWrite socket next →
    SomeIs (Lists socket) between

-- The count is none, or it was reached on a socket of the player.
pub record CountIsReached (s : Setting) (items : List Item) (q count : ℕ) : Type 0 where
  pub log : List Entry
  pub synced : synced_in items ≡ log_bytes s.game.id s.me log
  pub reached : (count ≡ 0) ⊎ ((socket : ℕ) ×
      IsReachedOn s (made log) (came_on socket items) (given_in socket items) q count)

-- The loop counts own frames as given to a player up to a place for which this one asked, or up
-- to one that was wholly given to it.
abbrev pub CountsAreReached : Type 0
CountsAreReached = (s : Setting) (items : List Item) (q : ℕ) (c : Seat) → SocketsAreNew items →
    IsHistory s items → seat_of (view_of s items).table q ≡ Some c →
    CountIsReached s items q c.given

-- The count of a player is at least each place that it asked for on a socket, by its HELLO or by a
-- WANT, where further bytes were taken there after that. So it is from then on.
abbrev pub AskedAreCounted : Type 0
AskedAreCounted = (s : Setting) (before more : List Item) (socket q place : ℕ) (bytes id pass : List ℕ)
    (next : ℕ) (rest : List Frame) (c : Seat) →
    SocketsAreNew (before ++ Took socket bytes ∷ more) →
    IsHistory s (before ++ Took socket bytes ∷ more) →
    came_on socket before ≡ Hello id q pass next ∷ rest → IsAsked (came_on socket before) place →
    seat_of (view_of s (before ++ Took socket bytes ∷ more)).table q ≡ Some c → place ≤ c.given

-- where bytes are taken, or given, there is one at least
abbrev pub TakesHaveBytes : Type 0
TakesHaveBytes = (s : Setting) (before more : List Item) (socket : ℕ) (bytes : List ℕ) →
    IsHistory s (before ++ Took socket bytes ∷ more) → 0 < length bytes

abbrev pub GivesHaveBytes : Type 0
GivesHaveBytes = (s : Setting) (before more : List Item) (socket : ℕ) (bytes : List ℕ) →
    IsHistory s (before ++ Gave socket bytes ∷ more) → 0 < length bytes

-- between two syncs an entry is kept
abbrev pub SyncsHaveEntries : Type 0
SyncsHaveEntries = (s : Setting) (before between more : List Item) →
    IsHistory s (before ++ Synced ∷ (between ++ Synced ∷ more)) → SomeIs IsKept between

-- after the end of a socket nothing is done with it
abbrev pub ClosingsAreLast : Type 0
ClosingsAreLast = (s : Setting) (before between more : List Item) (socket : ℕ) (item next : Item) →
    SocketsAreNew (before ++ item ∷ (between ++ next ∷ more)) →
    IsHistory s (before ++ item ∷ (between ++ next ∷ more)) → Closes socket item →
    Touches socket next → ⊥

-- a socket is dialled for a player of the roster, at its address
abbrev pub DialsAreWanted : Type 0
DialsAreWanted = (s : Setting) (before more : List Item) (socket q : ℕ) (addr : Addr) →
    SocketsAreNew (before ++ Dialled socket q addr ∷ more) →
    IsHistory s (before ++ Dialled socket q addr ∷ more) → IsToBeDialled s q addr

-- between two dials of a player a poll is made
abbrev pub DialsHavePolls : Type 0
DialsHavePolls = (s : Setting) (before between more : List Item) (q : ℕ) (item next : Item) →
    IsHistory s (before ++ item ∷ (between ++ next ∷ more)) →
    IsDialFor q item → IsDialFor q next → SomeIs IsPoll between

-- where a player is dialled again, each socket that was dialled for it before ended, was shut or
-- failed meanwhile
abbrev pub DialsFindNone : Type 0
DialsFindNone = (s : Setting) (before between more : List Item) (socket q : ℕ) (addr : Addr) (next : Item) →
    SocketsAreNew (before ++ Dialled socket q addr ∷ (between ++ next ∷ more)) →
    IsHistory s (before ++ Dialled socket q addr ∷ (between ++ next ∷ more)) → IsDialFor q next →
    SomeIs (Closes socket) between

-- until a frame came on a socket, and with the piece that brings one, no more bytes are taken
-- there than a HELLO has
abbrev pub StrangersAreShort : Type 0
StrangersAreShort = (s : Setting) (before more : List Item) (socket : ℕ) (bytes : List ℕ) →
    SocketsAreNew (before ++ Took socket bytes ∷ more) →
    IsHistory s (before ++ Took socket bytes ∷ more) → came_on socket before ≡ [] →
    length (taken_in socket (before ++ Took socket bytes ∷ [])) ≤ HELLO_BYTES

-- a socket is shut for an item that is the cause, or since all was read that may be
abbrev pub ShutsHaveCauses : Type 0
ShutsHaveCauses = (s : Setting) (before more : List Item) (socket : ℕ) →
    SocketsAreNew (before ++ Shut socket ∷ more) → IsHistory s (before ++ Shut socket ∷ more) →
    HasCause s before socket ⊎ IsReadUp s before socket

-- ---- how often items of each kind come

-- no more pieces are taken than bytes came in them, and no more are given than bytes
abbrev pub TakesAreFew : Type 0
TakesAreFew = (s : Setting) (items : List Item) → IsHistory s items →
    count_by is_take items ≤ length (all_taken items)

abbrev pub GivesAreFew : Type 0
GivesAreFew = (s : Setting) (items : List Item) → IsHistory s items →
    count_by is_give items ≤ length (all_given items)

-- there is no more than one sync beyond the entries that were kept
abbrev pub SyncsAreFew : Type 0
SyncsAreFew = (s : Setting) (items : List Item) → IsHistory s items →
    count_by is_sync items ≤ count_by is_keep items + 1

-- no more than one read of a socket finds nothing beyond the polls that list it
abbrev pub IdleReadsAreFew : Type 0
IdleReadsAreFew = (s : Setting) (items : List Item) (socket : ℕ) → SocketsAreNew items →
    IsHistory s items →
    count_by (is_idle_read socket) items ≤ count_by (is_listing socket) items + 1

-- nor is a write refused more often
abbrev pub IdleWritesAreFew : Type 0
IdleWritesAreFew = (s : Setting) (items : List Item) (socket : ℕ) → SocketsAreNew items →
    IsHistory s items →
    count_by (is_idle_write socket) items ≤ count_by (is_listing socket) items + 1

-- a socket ends, is shut or fails once at most
abbrev pub ClosingsAreFew : Type 0
ClosingsAreFew = (s : Setting) (items : List Item) (socket : ℕ) → SocketsAreNew items →
    IsHistory s items → count_by (is_closing socket) items ≤ 1

-- a player is dialled no more than once beyond the polls
abbrev pub DialsAreFew : Type 0
DialsAreFew = (s : Setting) (items : List Item) (q : ℕ) → IsHistory s items →
    count_by (is_dial q) items ≤ count_by is_poll items + 1
