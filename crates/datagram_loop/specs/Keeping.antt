-- Keeping: what stands after the calls that keep and sync.
use Rattle.std.specs.Prelude.{◌≡◌, Bool, true, false, List, [], length}
use Rattle.datagram_post.specs.Items.{Item}
use Rattle.peer_rules.specs.declared.arrivals.Arrival.{Arrival}
use Rattle.peer_rules.specs.declared.phases.Phase.TheVariants.{Running, KeepFault}
use Rattle.post_rules.specs.Views.{Settling}
use Rattle.post_rules.specs.Handling.{still_new}
use Rattle.post_rules.specs.Histories.{Follows}
use Rattle.datagram_loop.specs.States.{LoopState, kept_of, view_of}
use Rattle.datagram_loop.specs.Pending.{IsPending}

-- nothing but the log changes
abbrev pub with_log : (m l : LoopState) → LoopState
with_log m l = record l { kept = m.kept; synced = m.synced; phase = m.phase }

-- all entries are kept, and no frame waits that is new; or a keep failed
abbrev pub StandsAll : (done : Bool) → List Arrival → LoopState → Type 0
StandsAll true waiting m = (m.phase ≡ Running) × (m.kept ≡ length m.peer.entries) × (still_new m.peer.game m.peer.me (kept_of m) waiting ≡ [])
StandsAll false waiting m = m.phase ≡ KeepFault

-- from these frames waiting, the entries are kept by the rules
pub record KeptSo (done : Bool) (w : List Arrival) (settling : Settling) (before after : List Item) (l m : LoopState) : Type 0 where
  pub waiting : List Arrival
  pub follows : Follows (view_of w settling l) (view_of waiting settling m) before after
  pub stands : StandsAll done waiting m

-- The entries that were not kept are kept one by one. From whatever frames explain them, that goes
-- by the rules.
pub record KeepsAll (done : Bool) (before after : List Item) (l m : LoopState) : Type 0 where
  pub same : m ≡ with_log m l
  pub synced : m.synced ≡ l.synced
  pub running : done ≡ true → m.phase ≡ Running
  pub told : (w : List Arrival) (settling : Settling) → IsPending l w → settling.is_stored ≡ false → KeptSo done w settling before after l m

-- all entries are kept and synced, or a call failed
abbrev pub StandsNew : (done : Bool) → List Arrival → LoopState → Type 0
StandsNew true waiting m = (m.phase ≡ Running) × (m.kept ≡ length m.peer.entries) × (m.synced ≡ m.kept) × (still_new m.peer.game m.peer.me (kept_of m) waiting ≡ [])
StandsNew false waiting m = m.phase ≡ KeepFault

-- from these frames waiting, the entries are kept and synced by the rules
pub record SyncedSo (done : Bool) (w : List Arrival) (settling : Settling) (before after : List Item) (l m : LoopState) : Type 0 where
  pub waiting : List Arrival
  pub is_stored : Bool
  pub follows : Follows (view_of w settling l) (view_of waiting (record settling { is_stored = is_stored }) m) before after
  pub stands : StandsNew done waiting m

-- The entries that were not kept are kept and then synced, from whatever frames explain them.
pub record KeepsNew (done : Bool) (before after : List Item) (l m : LoopState) : Type 0 where
  pub same : m ≡ with_log m l
  pub told : (w : List Arrival) (settling : Settling) → IsPending l w → settling.is_stored ≡ false → SyncedSo done w settling before after l m
