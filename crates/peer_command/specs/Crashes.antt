-- Crashes: what a peer that was stopped finds in its log, whatever a crash left of it.
use Rattle.std.specs.Prelude.{◌≡◌, ◌⊎◌, ◌<◌, ℕ, false, List, [], ◌∷◌, ◌++◌, Option, Some, None, take}
use Rattle.definitions.specs.declared.frames.TurnFrame.{TurnFrame}
use Rattle.definitions.specs.declared.logs.Entry.{Entry}
use Rattle.definitions.specs.World.{players_of}
use Rattle.definitions.specs.Logs.{made}
use Rattle.definitions.specs.Honest.{IsHonest}
use Rattle.session_log.specs.Spelling.{log_bytes}
use Rattle.socket_station.specs.Items.{Item, Gave}
use Rattle.socket_station.specs.Moved.{synced_in}
use Rattle.socket_lines.specs.declared.line.Line.{Line}
use Rattle.loop_rules.specs.Settings.{Setting}
use Rattle.loop_rules.specs.Tables.{line_of}
use Rattle.loop_rules.specs.Views.{safe_frames}
use Rattle.loop_rules.specs.After.{view_of}
use Rattle.loop_rules.specs.Histories.{IsHistory}
use Rattle.loop_rules.specs.Images.{IsImage, handed_in, has_lucky_tail}
use Rattle.loop_rules.specs.Laws.{GoesOn}
use Rattle.old_log.specs.Old.{old_entries, old_fault}

-- the run may stop behind these items, or within the call of the next one
abbrev pub MayStop : Setting → (items : List Item) → (next : Option Item) → Type 0
MayStop s items None = IsHistory s items
MayStop s items (Some item) = IsHistory s (items ++ item ∷ [])

-- the bytes that each of these items gave go on with a frame that was begun before, or begin one, and of own frames one of these alone
abbrev pub GaveOf : Setting → (items : List Item) → (own : List TurnFrame) → Type 0
GaveOf s items own = (before more : List Item) (socket : ℕ) (bytes : List ℕ) → items ≡ before ++ Gave socket bytes ∷ more →
    (l : Line) × (line_of (view_of s before).table socket ≡ Some l) × GoesOn own l bytes

-- the own frames that might be given at any moment of these items are the first ones of these
abbrev pub StaysOf : Setting → (items : List Item) → (own : List TurnFrame) → Type 0
StaysOf s items own = (before rest : List Item) → items ≡ before ++ rest → (later : List TurnFrame) × (own ≡ safe_frames (view_of s before) ++ later)

-- A peer that was stopped goes on from what a crash left of its log.
pub record GoesOnFrom (s : Setting) (items : List Item) (next : Option Item) (image : List ℕ) : Type 0 where
  -- no fault refuses it
  pub fit : old_fault s.game s.me image ≡ None
  -- its entries are the first ones of those handed to `keep`
  pub lost : List Entry
  pub handed : handed_in items next ≡ log_bytes s.game.id s.me (old_entries s.game image ++ lost)
  -- all that the last sync found are among them
  pub more : List Entry
  pub synced : old_entries s.game image ≡ take (view_of s items).synced (view_of s items).kept ++ more
  -- and, once there was a sync, those taken over; before that the log to go on from is the older one, which lacks nothing that was given
  pub over : (synced_in items ≡ []) ⊎ ((later : List Entry) × (old_entries s.game image ≡ s.over ++ later))
  -- an honest player may have them, so that what is promised of a history holds of one that takes them over
  pub honest : IsHonest s.game s.me (old_entries s.game image)
  -- each own frame that might be given at any moment stands among them, at its place and with its nonce
  pub own : StaysOf s items (made (old_entries s.game image))
  -- and of these, and of no other own frame, bytes were given
  pub given : GaveOf s items (made (old_entries s.game image))

-- Whenever a run stops, and whatever a crash leaves of its log, but for a lucky tail, the player goes on from that, and has all that it gave.
abbrev pub CrashesAreSurvived : Type 0
CrashesAreSurvived = (s : Setting) (items : List Item) (next : Option Item) (image : List ℕ) → s.me < players_of s.game → IsHonest s.game s.me s.over →
    MayStop s items next → IsImage items image → has_lucky_tail s (handed_in items next) image ≡ false → GoesOnFrom s items next image

-- until the first sync no byte of an own frame is given, so that the log taken over lacks none
abbrev pub NothingIsGivenUnsynced : Type 0
NothingIsGivenUnsynced = (s : Setting) (items : List Item) → IsHistory s items → synced_in items ≡ [] → GaveOf s items []
