-- Overs: the entries of an older log are taken over.
use Rattle.std.specs.Prelude.{◌≡◌, ◌≤◌, Bool, true, false, List, [], ◌++◌, length}
use Rattle.socket_station.specs.Items.{Item}
use Rattle.peer_rules.specs.declared.phases.Phase.TheVariants.{Logged, Running, KeepFault, PollFault}
use Rattle.loop_rules.specs.Told.{IsTold}
use Rattle.loop_laws.specs.Sockets.{SocketsAreNew}
use Rattle.ready_loop.specs.States.{LoopState, setting_of, view_of}
use Rattle.ready_loop.specs.Steps.{in_phase, synced_all}
use Rattle.ready_loop.specs.Going.{polls_of}

-- the log was begun, or that failed
abbrev pub logged_on : (done : Bool) → LoopState → LoopState
logged_on true l = in_phase Logged l
logged_on false l = in_phase KeepFault l

-- the loop listens, or that failed
abbrev pub listens_on : (done : Bool) → LoopState → LoopState
listens_on true l = in_phase Running l
listens_on false l = in_phase PollFault l

-- the log is begun, and nothing but entries taken over is kept in it
pub record IsTakingOver (items : List Item) (l : LoopState) : Type 0 where
  pub told : IsTold items (view_of l)
  pub logged : l.phase ≡ Logged
  pub over : l.over ≡ length l.peer.entries
  pub few : l.kept ≤ length l.peer.entries
  pub waiting : l.table.waiting ≡ []
  pub handled : l.handled ≡ 0

-- where the loop stands behind it: all of them are kept, or a keep failed
abbrev pub StandsOver : (done : Bool) → List Item → LoopState → Type 0
StandsOver true items m = IsTakingOver items m × (m.kept ≡ length m.peer.entries)
StandsOver false items m = m.phase ≡ KeepFault

pub record TakesOver (done : Bool) (before after : List Item) (l m : LoopState) : Type 0 where
  pub more : List Item
  pub grown : after ≡ before ++ more
  pub new : SocketsAreNew before → SocketsAreNew after
  pub polls : polls_of after ≡ polls_of before
  pub told : IsTold after (view_of m)
  pub peer : m.peer ≡ l.peer
  pub setting : setting_of m ≡ setting_of l
  pub synced : m.synced ≡ l.synced
  pub stands : StandsOver done after m

-- the entries taken over are synced, where there are any, or that failed
pub record SyncsOver (done : Bool) (before after : List Item) (l m : LoopState) : Type 0 where
  pub more : List Item
  pub grown : after ≡ before ++ more
  pub new : SocketsAreNew before → SocketsAreNew after
  pub polls : polls_of after ≡ polls_of before
  pub told : IsTold after (view_of m)
  pub same : m ≡ synced_all done l
