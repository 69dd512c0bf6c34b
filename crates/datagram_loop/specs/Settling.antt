-- Settling: what stands after all that is done between two polls.
use Rattle.std.specs.Prelude.{◌≡◌, ℕ, Bool, true, false, List, [], Option, Some, None, length}
use Rattle.definitions.specs.Findings.{is_clean}
use Rattle.definitions.specs.Needs.{may_choose}
use Rattle.definitions.specs.Advance.{next_made}
use Rattle.definition_laws.specs.First.{finding_of_log}
use Rattle.definition_laws.specs.Advancing.{IsDone}
use Rattle.pilots.specs.Plans.{Plan}
use Rattle.datagram_post.specs.Items.{Item}
use Rattle.own_moves.specs.declared.making.Moves.{Moves}
use Rattle.own_moves.specs.declared.making.Moves.TheVariants as M
use Rattle.own_moves.specs.Choices.{Chooser, ChoosesBy}
use Rattle.own_moves.specs.Making.{IsOwnMove}
use Rattle.peer_rules.specs.declared.arrivals.Arrival.{Arrival}
use Rattle.peer_rules.specs.declared.phases.Phase.TheVariants.{KeepFault}
use Rattle.post_rules.specs.Views.{Settling, View, settling_after}
use Rattle.post_rules.specs.Handling.{still_new}
use Rattle.post_rules.specs.Sending.{batch}
use Rattle.post_rules.specs.Licence.{is_licensed, is_through, is_waited_for}
use Rattle.post_rules.specs.Histories.{Follows}
use Rattle.datagram_loop.specs.declared.settling.Settled.{Settled}
use Rattle.datagram_loop.specs.declared.settling.Settled.TheVariants as S
use Rattle.datagram_loop.specs.States.{LoopState, kept_of, setting_of, view_of, IsReady}

-- a poll is licensed
abbrev pub is_idle : Settled → Bool
is_idle S.Idle = true
is_idle S.Done = false
is_idle (S.Caught f) = false
is_idle S.KeepFault = false
is_idle (S.OwnMove turn fault) = false

-- Before the batch is sent, all is received, handled, kept and synced. Nothing can be made or
-- chosen, and the log has no finding.
pub record IsServing (l : LoopState) : Type 0 where
  pub ready : IsReady l
  pub chosen : may_choose l.peer.game l.peer.me l.peer.entries ≡ false
  pub made : next_made l.peer.game l.peer.me l.peer.entries ≡ None
  pub clean : is_clean l.peer.game l.peer.entries ≡ true

-- the batch was handed to `send`, and a poll is licensed, or nobody is waited for
abbrev pub StandsServed : Settled → View → LoopState → Type 0
StandsServed S.Idle v m = is_licensed v ≡ true
StandsServed S.Done v m = (is_through v ≡ true) × (is_waited_for v ≡ false) × IsDone m.peer.game m.peer.me m.peer.entries
StandsServed (S.Caught f) v m = ⊥
StandsServed S.KeepFault v m = ⊥
StandsServed (S.OwnMove turn fault) v m = ⊥

-- the batch is sent by the rules, and why it ended so
pub record ServedSo (settled : Settled) (w : List Arrival) (settling : Settling) (before after : List Item) (l : LoopState) : Type 0 where
  pub follows : Follows (view_of w settling l) (view_of w (record settling { sent = length (batch (view_of w settling l)) }) l) before after
  pub stands : StandsServed settled (view_of w (record settling { sent = length (batch (view_of w settling l)) }) l) l

-- from whatever frames were handled, once all is received and nothing is sent
abbrev pub Serves : (settled : Settled) → (before after : List Item) → (l : LoopState) → Type 0
Serves settled before after l = (w : List Arrival) (settling : Settling) → still_new l.peer.game l.peer.me (kept_of l) w ≡ [] → settling.is_received ≡ true → settling.sent ≡ 0 → ServedSo settled w settling before after l

-- why a settling ended so, with this shown
abbrev pub StandsSettled : Option Plan → Settled → View → LoopState → Type 0
StandsSettled plan S.Idle v m = IsReady m × (is_licensed v ≡ true)
StandsSettled plan S.Done v m = IsReady m × (is_through v ≡ true) × (is_waited_for v ≡ false) × IsDone m.peer.game m.peer.me m.peer.entries
StandsSettled plan (S.Caught f) v m = IsReady m × (finding_of_log m.peer.game m.peer.entries ≡ Some f)
StandsSettled plan S.KeepFault v m = m.phase ≡ KeepFault
StandsSettled plan (S.OwnMove turn fault) v m = IsReady m × IsOwnMove plan turn fault m.peer

-- Whether a move was refused after the last choice. At an own move that isn't legal one was, and
-- after a fault of the log one may have been.
abbrev pub Refuses : Settled → (refused : Bool) → Type 0
Refuses S.Idle refused = refused ≡ false
Refuses S.Done refused = refused ≡ false
Refuses (S.Caught f) refused = refused ≡ false
Refuses S.KeepFault refused = Unit {0}
Refuses (S.OwnMove turn fault) refused = refused ≡ true

-- how a settling ends in which an own move was refused
abbrev pub own_move : Moves → Option Settled
own_move M.Legal = None
own_move (M.OwnMove turn fault) = Some (S.OwnMove turn fault)

-- after so many polls of the play, the history goes on by the rules, and why it ended so
pub record SettledSo (polls : ℕ) (plan : Option Plan) (settled : Settled) (before after : List Item) (l m : LoopState) : Type 0 where
  pub waiting : List Arrival
  pub settling : Settling
  pub polls_same : settling.polls ≡ polls
  pub follows : Follows (view_of [] (settling_after polls) l) (view_of waiting settling m) before after
  pub stands : StandsSettled plan settled (view_of waiting settling m) m

-- The history goes on by the rules, from nothing done since the last poll. The own moves in it are
-- the chooser's.
pub record Settles (by to : Chooser) (settled : Settled) (before after : List Item) (l m : LoopState) : Type 0 where
  pub setting : setting_of m ≡ setting_of l
  pub refused : Bool
  pub refuses : Refuses settled refused
  pub choices : ChoosesBy l.peer.game l.peer.me by to refused l.peer.entries m.peer.entries
  pub told : (polls : ℕ) → SettledSo polls by.plan settled before after l m
