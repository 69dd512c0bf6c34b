-- Going on: what the calls of a loop promise of the history of its station.
use Rattle.std.specs.Prelude.{◌≡◌, ◌⊎◌, ℕ, ◌+◌, ◌≤◌, not, List, [], ◌∷◌, ◌++◌, None, length}
use Rattle.std.specs.List.{count_by}
use Rattle.definitions.specs.declared.logs.Entry.{Entry}
use Rattle.definitions.specs.Advance.{advance, next_made}
use Rattle.socket_station.specs.Items.{Item, Polled}
use Rattle.peer_rules.specs.declared.phases.Phase.TheVariants.{Running, KeepFault, PollFault}
use Rattle.loop_rules.specs.Told.{IsTold}
use Rattle.loop_laws.specs.Sockets.{SocketsAreNew}
use Rattle.ready_loop.specs.States.{LoopState, kept_of, setting_of, choices_of, view_of}

-- how many polls an item tells of
abbrev pub poll_count : Item → ℕ
poll_count (Polled list) = 1
poll_count _ = 0

-- how many polls were made
abbrev pub polls_of : List Item → ℕ
polls_of [] = 0
polls_of (item ∷ items) = poll_count item + polls_of items

-- how many players were not dialled since the last poll
abbrev pub undialled : LoopState → ℕ
undialled l = count_by (λ c. not c.is_dialled) l.table.seats

-- The history grew by items that the rules allow, none of them a poll, and shows what the loop
-- knows. The numbers of the sockets in it are new, where they were before.
pub record Grows (before after : List Item) (l m : LoopState) : Type 0 where
  pub more : List Item
  pub grown : after ≡ before ++ more
  pub new : SocketsAreNew before → SocketsAreNew after
  pub polls : polls_of after ≡ polls_of before
  pub setting : setting_of m ≡ setting_of l
  pub undialled : undialled m ≤ undialled l
  pub told : IsTold after (view_of m)

-- the same of calls that choose no move
pub record Goes (before after : List Item) (l m : LoopState) : Type 0 where
  pub more : List Item
  pub grown : after ≡ before ++ more
  pub new : SocketsAreNew before → SocketsAreNew after
  pub polls : polls_of after ≡ polls_of before
  pub setting : setting_of m ≡ setting_of l
  pub undialled : undialled m ≤ undialled l
  pub told : IsTold after (view_of m)
  pub chosen : choices_of m ≡ choices_of l

-- every entry is kept, and no own frame is left to be made
pub record IsPlayed (l : LoopState) : Type 0 where
  pub kept : l.kept ≡ length l.peer.entries
  pub made : next_made l.peer.game l.peer.me l.peer.entries ≡ None

-- between the loop's calls: it runs, every entry is kept, and no frame waits
pub record IsIdle (l : LoopState) : Type 0 where
  pub running : l.phase ≡ Running
  pub kept : l.kept ≡ length l.peer.entries
  pub waiting : l.table.waiting ≡ []
  pub handled : l.handled ≡ 0

-- the polls failed: nothing is heard any more, but every entry is kept and synced, and no frame waits
pub record IsDeaf (l : LoopState) : Type 0 where
  pub fault : l.phase ≡ PollFault
  pub kept : l.kept ≡ length l.peer.entries
  pub synced : l.synced ≡ l.kept
  pub waiting : l.table.waiting ≡ []
  pub handled : l.handled ≡ 0

-- How the log stands to the entries kept, where a call of the log failed: it has no more, or one more, which came or was chosen, or also the own
-- frames that the entries kept let be made; or nothing was added yet to those taken over.
abbrev pub IsRest : LoopState → Type 0
IsRest l =
    (l.peer.entries ≡ kept_of l)
    ⊎ (((e : Entry) × (l.peer.entries ≡ kept_of l ++ e ∷ []))
    ⊎ ((l.peer.entries ≡ advance l.peer.game l.peer.me (kept_of l))
    ⊎ (l.peer.entries ≡ (setting_of l).over)))

-- a call of the log failed
pub record IsCut (l : LoopState) : Type 0 where
  pub fault : l.phase ≡ KeepFault
  pub rest : IsRest l

-- before a socket is read or written: no own frame is left to be made either
pub record IsSteady (l : LoopState) : Type 0 where
  pub idle : IsIdle l
  pub made : next_made l.peer.game l.peer.me l.peer.entries ≡ None
