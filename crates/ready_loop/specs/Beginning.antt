-- Beginning: what a loop is before its first call, and what stands behind a beginning.
use Rattle.std.specs.Prelude.{◌≡◌, ℕ, List, length}
use Rattle.rosters.specs.Rosters.{Neighbours}
use Rattle.socket_station.specs.Items.{Item}
use Rattle.peer_core.specs.Views.{PeerState}
use Rattle.peer_rules.specs.declared.phases.Phase.TheVariants.{Fresh, KeepFault}
use Rattle.loop_rules.specs.Settings.{Setting}
use Rattle.loop_rules.specs.Views.{first_table}
use Rattle.loop_rules.specs.Histories.{BeginsLog}
use Rattle.loop_rules.specs.Told.{IsTold}
use Rattle.loop_laws.specs.Sockets.{SocketsAreNew}
use Rattle.loop_ends.specs.declared.ends.Begun.{Begun}
use Rattle.loop_ends.specs.declared.ends.Begun.TheVariants as B
use Rattle.ready_loop.specs.States.{LoopState, setting_of, view_of}
use Rattle.ready_loop.specs.Going.{IsIdle, IsDeaf, polls_of}

-- a loop of the peer with these neighbours goes on from the peer's entries
abbrev pub given_by : PeerState → Neighbours → Setting
given_by p r = record { game = p.game; me = p.me; roster = r; over = p.entries }

-- before the first call
abbrev pub new_loop : PeerState → Neighbours → LoopState
new_loop p r = record {
  peer = p;
  roster = r;
  over = length p.entries;
  kept = 0;
  synced = 0;
  phase = Fresh;
  table = first_table (given_by p r);
  handled = 0;
}

-- nothing was called yet
abbrev pub IsNew : LoopState → Type 0
IsNew l = l ≡ new_loop l.peer l.roster

-- where the loop stands behind a beginning that ended so
abbrev pub StandsBegun : Begun → LoopState → Type 0
StandsBegun B.Ready l = IsIdle l × (l.synced ≡ l.kept)
StandsBegun B.KeepFault l = l.phase ≡ KeepFault
StandsBegun B.PollFault l = IsDeaf l

-- The history is one by the rules, of a log of that name, with no poll in it, and shows what the
-- loop knows. The numbers of the sockets in it are new, and the peer is the same.
pub record Begins (name : List ℕ) (begun : Begun) (l m : LoopState) (items : List Item) : Type 0 where
  pub told : IsTold items (view_of m)
  pub new : SocketsAreNew items
  pub named : BeginsLog name items
  pub polls : polls_of items ≡ 0
  pub peer : m.peer ≡ l.peer
  pub setting : setting_of m ≡ setting_of l
  pub stands : StandsBegun begun m
