-- States: what a loop knows, and what its post told by then.
use Rattle.std.specs.Prelude.{◌≡◌, ◌≤◌, ◌<◌, ◌+◌, ℕ, Bool, true, false, List, [], Option, Some, None, length, slice_get, take, if◌then◌else◌}
use Rattle.std.specs.List.{fold}
use Rattle.definitions.specs.Lists.{EachIs}
use Rattle.definitions.specs.declared.frames.TurnFrame.{TurnFrame}
use Rattle.definitions.specs.declared.logs.Entry.{Entry}
use Rattle.definitions.specs.World.{players_of}
use Rattle.definitions.specs.Honest.{made_count}
use Rattle.session_log.specs.Writing.{Writing, fresh, written}
use Rattle.session_log.specs.Writing as W
use Rattle.rosters.specs.Rosters.{Neighbours}
use Rattle.peer_core.specs.Views.{PeerState, with_got}
use Rattle.letters.specs.declared.letter.Letter.{Letter}
use Rattle.peer_rules.specs.declared.arrivals.Arrival.{Arrival}
use Rattle.peer_rules.specs.declared.phases.Phase.{Phase}
use Rattle.peer_rules.specs.declared.phases.Phase.TheVariants.{Running, KeepFault, PollFault}
use Rattle.post_rules.specs.declared.partners.Partner.{Partner}
use Rattle.post_rules.specs.declared.drops.Cause.{Cause}
use Rattle.post_rules.specs.declared.drops.Cause.TheVariants as C
use Rattle.post_rules.specs.declared.drops.Drops.{Drops}
use Rattle.post_rules.specs.Views.{Setting, Settling, View}
use Rattle.post_rules.specs.Hearing.{is_good, cause_of, dropped_for, partner_of, told_by}
use Rattle.post_rules.specs.Sending.{asked}

-- what a loop knows
pub record LoopState : Type 0 where
  pub peer : PeerState
  pub roster : Neighbours
  pub partners : List Partner
  -- how many entries are kept, and how many of these the last sync found
  pub kept : ℕ
  pub synced : ℕ
  pub phase : Phase
  -- how many datagrams were dropped since the loop was made, by cause
  pub drops : Drops

-- what the loop was given
abbrev pub setting_of : LoopState → Setting
setting_of l = record { game = l.peer.game; me = l.peer.me; roster = l.roster }

-- the entries kept
abbrev pub kept_of : LoopState → List Entry
kept_of l = take l.kept l.peer.entries

-- what writes the next entry
abbrev pub writer_of : LoopState → Writing
writer_of l = fold W.after (fresh l.peer.game.id l.peer.me) (kept_of l)

-- what the history shows, where these frames wait and this was done since the last poll
abbrev pub view_of : List Arrival → Settling → LoopState → View
view_of waiting settling l = record {
  setting = setting_of l;
  phase = l.phase;
  kept = kept_of l;
  synced = l.synced;
  writer = writer_of l;
  partners = l.partners;
  waiting = waiting;
  settling = settling;
  drops = l.drops;
}

-- between two polls, before anything is done: the loop runs, and all is kept and synced
pub record IsReady (l : LoopState) : Type 0 where
  pub running : l.phase ≡ Running
  pub kept : l.kept ≡ length l.peer.entries
  pub synced : l.synced ≡ l.kept

-- what holds of every loop
pub record IsFit (l : LoopState) (w : Writing) : Type 0 where
  pub kept : l.kept ≤ length l.peer.entries
  pub synced : l.synced ≤ l.kept
  pub partners : EachIs (λ p. p.link.player < players_of l.peer.game) l.partners
  -- after a keep that failed nothing more is written
  pub writer : (l.phase ≡ KeepFault → ⊥) → w ≡ writer_of l

-- ---- what calls do

-- the same loop in another phase
abbrev pub in_phase : Phase → LoopState → LoopState
in_phase phase l = record l { phase = phase }

-- what is written for an entry, if there is one
abbrev pub written_for : Writing → Option Entry → List ℕ
written_for w None = []
written_for w (Some e) = written w e

-- what is written for the first entry that is not kept
abbrev pub next_bytes : LoopState → List ℕ
next_bytes l = written_for (writer_of l) (slice_get l.peer.entries l.kept)

-- the first entry that was not kept is, or keeping it failed
abbrev pub kept_next : (done : Bool) → LoopState → LoopState
kept_next true l = record l { kept = l.kept + 1 }
kept_next false l = in_phase KeepFault l

-- all that is kept is synced, or the sync failed
abbrev pub synced_all : (done : Bool) → LoopState → LoopState
synced_all true l = record l { synced = l.kept }
synced_all false l = in_phase KeepFault l

-- a poll was made, or failed
abbrev pub polled_on : (done : Bool) → LoopState → LoopState
polled_on true l = l
polled_on false l = in_phase PollFault l

-- ---- what a datagram does

-- the peer, to which the frame is offered, if there is one
abbrev pub offered : (q : ℕ) → Option TurnFrame → PeerState → PeerState
offered q None p = p
offered q (Some f) p = record p { entries = with_got p.game p.me p.entries q f }

-- a good letter is heard: its place is noted, and its frame is offered to the peer
abbrev pub heard_by : Letter → LoopState → LoopState
heard_by l s = record s { peer = offered l.player l.frame s.peer; partners = told_by l.player l.next s.partners }

-- a datagram is dropped for this cause, which is counted
abbrev pub dropped_by : Cause → LoopState → LoopState
dropped_by cause s = record s { drops = dropped_for cause s.drops }

-- a letter came that is good, or is dropped
abbrev pub hears_if : (good : Bool) → Letter → LoopState → LoopState
hears_if good l s = if good then heard_by l s else dropped_by (cause_of s.peer.game.id s.partners l) s

-- a datagram came that spells this letter, or none
abbrev pub hears : Option Letter → LoopState → LoopState
hears None s = dropped_by C.Spelling s
hears (Some l) s = hears_if (is_good s.peer.game.id s.partners l) l s

-- the place that the player wants next, among so many own frames
abbrev pub asked_by : (made : ℕ) → Option Partner → ℕ
asked_by made None = 0
asked_by made (Some p) = asked made p

-- how many own frames each player has, as far as it told
abbrev pub held_by : LoopState → (q : ℕ) → ℕ
held_by l q = asked_by (made_count l.peer.entries) (partner_of l.partners q)
