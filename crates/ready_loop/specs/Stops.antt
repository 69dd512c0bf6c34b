-- Stops: why a loop stops, and where it stands then.
use Rattle.std.specs.Prelude.{◌≡◌, Bool, true, false, Option, Some, Result, Ok, Err}
use Rattle.definitions.specs.Honest.{made_count}
use Rattle.definitions.specs.Findings.{is_clean}
use Rattle.definition_laws.specs.First.{finding_of_log}
use Rattle.definition_laws.specs.Advancing.{IsDone}
use Rattle.pilots.specs.Plans.{Plan}
use Rattle.own_moves.specs.Making.{IsOwnMove}
use Rattle.loop_rules.specs.Licence.{bytes_wait}
use Rattle.ready_loop.specs.declared.settling.Settled.{Settled}
use Rattle.ready_loop.specs.declared.settling.Settled.TheVariants as S
use Rattle.ready_loop.specs.declared.stops.Stop.{Stop}
use Rattle.ready_loop.specs.declared.stops.Stop.TheVariants as T
use Rattle.ready_loop.specs.States.{LoopState}
use Rattle.ready_loop.specs.Going.{IsCut, IsIdle}

-- every entry is kept and synced
pub record IsWhole (m : LoopState) : Type 0 where
  pub idle : IsIdle m
  pub synced : m.synced ≡ m.kept

-- the log has no finding, no own turn is left, nobody is waited for, and no bytes wait
pub record IsOver (m : LoopState) : Type 0 where
  pub whole : IsWhole m
  pub clean : is_clean m.peer.game m.peer.entries ≡ true
  pub done : IsDone m.peer.game m.peer.me m.peer.entries
  pub given : bytes_wait (made_count m.peer.entries) m.table ≡ false

-- why a settling ended so
abbrev pub StandsSettled : Option Plan → Settled → LoopState → Type 0
StandsSettled plan S.Idle m = IsWhole m
StandsSettled plan S.Done m = IsOver m
StandsSettled plan (S.Caught f) m = IsWhole m × (finding_of_log m.peer.game m.peer.entries ≡ Some f)
StandsSettled plan S.KeepFault m = IsCut m
StandsSettled plan (S.OwnMove turn fault) m = IsWhole m × IsOwnMove plan turn fault m.peer

abbrev pub is_idle : Settled → Bool
is_idle S.Idle = true
is_idle S.Done = false
is_idle (S.Caught f) = false
is_idle S.KeepFault = false
is_idle (S.OwnMove turn fault) = false

-- Whether a move was refused after the last choice: at an own move that isn't legal one was, and
-- after a fault of the log one may have been.
abbrev pub Refuses : Settled → (refused : Bool) → Type 0
Refuses S.Idle refused = refused ≡ false
Refuses S.Done refused = refused ≡ false
Refuses (S.Caught f) refused = refused ≡ false
Refuses S.KeepFault refused = Unit {0}
Refuses (S.OwnMove turn fault) refused = refused ≡ true

-- how a settling ends that stopped so
abbrev pub settled_of : Stop → Settled
settled_of T.Done = S.Done
settled_of (T.Caught f) = S.Caught f
settled_of T.KeepFault = S.KeepFault
settled_of (T.OwnMove turn fault) = S.OwnMove turn fault

-- or one that nothing stopped: it ends where a poll is licensed
abbrev pub settled_by : Result (Unit {0}) Stop → Settled
settled_by (Ok u) = S.Idle
settled_by (Err stop) = settled_of stop

-- where a loop stands that stopped so
abbrev pub StandsStopped : Option Plan → Stop → LoopState → Type 0
StandsStopped plan stop m = StandsSettled plan (settled_of stop) m

-- or stopped so before a move was chosen, whatever the pilot's plan is
pub record StandsUnchosen (stop : Stop) (m : LoopState) : Type 0 where
  pub stands : (plan : Option Plan) → StandsStopped plan stop m
  pub refuses : Refuses (settled_of stop) false

-- or stopped so since a call of the log failed
abbrev pub StandsFaulty : Stop → LoopState → Type 0
StandsFaulty stop m = (stop ≡ T.KeepFault) × IsCut m
