-- Beginning: what a loop is before its first call, and what stands after a beginning.
use Rattle.std.specs.Prelude.{◌≡◌, ℕ, Bool, true, false, List, []}
use Rattle.rosters.specs.Rosters.{Neighbours}
use Rattle.datagram_post.specs.Items.{Item}
use Rattle.peer_core.specs.Views.{PeerState}
use Rattle.peer_rules.specs.declared.phases.Phase.TheVariants.{Fresh, Logged, Running, KeepFault, PollFault}
use Rattle.post_rules.specs.Views.{no_drops, new_partners, new_settling, start}
use Rattle.post_rules.specs.Histories.{Follows, BeginsLog}
use Rattle.loop_ends.specs.declared.ends.Begun.{Begun}
use Rattle.loop_ends.specs.declared.ends.Begun.TheVariants as B
use Rattle.datagram_loop.specs.States.{LoopState, setting_of, view_of, in_phase, IsReady}

-- before the first call
abbrev pub new_loop : PeerState → Neighbours → LoopState
new_loop p r = record { peer = p; roster = r; partners = new_partners r.links; kept = 0; synced = 0; phase = Fresh; drops = no_drops }

-- nothing was called yet, and the peer has no entries
pub record IsNew (l : LoopState) : Type 0 where
  pub new : l ≡ new_loop l.peer l.roster
  pub first : l.peer.entries ≡ []

-- the log was begun, or that failed
abbrev pub logged_on : (done : Bool) → LoopState → LoopState
logged_on true l = in_phase Logged l
logged_on false l = in_phase KeepFault l

-- the own address is bound, or that failed
abbrev pub bound_on : (done : Bool) → LoopState → LoopState
bound_on true l = in_phase Running l
bound_on false l = in_phase PollFault l

-- where the loop stands after a beginning that ended so
abbrev pub StandsBegun : Begun → LoopState → Type 0
StandsBegun B.Ready m = IsReady m
StandsBegun B.KeepFault m = m.phase ≡ KeepFault
StandsBegun B.PollFault m = m.phase ≡ PollFault

-- The history is one by the rules, of a log of that name, and shows what the loop knows. But for
-- its phase the loop is the same.
pub record Begins (name : List ℕ) (begun : Begun) (l m : LoopState) (items : List Item) : Type 0 where
  pub told : Follows (start (setting_of l)) (view_of [] new_settling m) [] items
  pub named : BeginsLog name items
  pub same : m ≡ in_phase m.phase l
  pub stands : StandsBegun begun m
