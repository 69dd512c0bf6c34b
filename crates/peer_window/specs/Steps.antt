-- Steps: what stands next in a stream, and how far a walk over the slots comes.
use Rattle.std.specs.Prelude.{◌≡◌, ℕ, ◌+◌, ◌*◌, List, Option, Some, None, Bool, true, false, not, if◌then◌else◌}
use Rattle.definitions.specs.declared.world.Move.{Move}
use Rattle.definitions.specs.declared.world.Track.{Track}
use Rattle.definitions.specs.declared.openings.Opening.{Opening}
use Rattle.definitions.specs.declared.frames.TurnFrame.{TurnFrame}
use Rattle.definitions.specs.declared.frames.TurnFrame.TheVariants.{Commit, Reveal}
use Rattle.definitions.specs.World.{Game}
use Rattle.definitions.specs.Places.{commits_next}
use Rattle.definitions.specs.Moves.{track_after}
use Rattle.definitions.specs.Held.{digest_of, known_to, next_known}
use Rattle.reveal_check.specs.declared.judging.Verdict.{Verdict}
use Rattle.reveal_check.specs.declared.judging.Verdict.TheVariants as V
use Rattle.move_rules.specs.Verdicts.{verdict}
use Rattle.reveal_check.specs.Judgements.{by_rules, judgement}
use Rattle.peer_window.specs.declared.received.Received.{Received}
use Rattle.definitions.specs.declared.findings.Finding.{Finding}
use Rattle.grid_world.specs.declared.streams.Stream.{Stream}
use Rattle.peer_window.specs.declared.walk.Step.{Step}
use Rattle.peer_window.specs.declared.walk.Step.TheVariants.{Committed, Resolved, Halt, Illegal}
use Rattle.peer_window.specs.Clashes.{illegal_clash, is_of, same_digest}
use Rattle.peer_window.specs.Slots.{slot, in_order, frames_in, shown}

-- the step over a commitment: one stands there, or none
abbrev pub commit_step : Option Received → Step
commit_step None = Halt
commit_step (Some r) = Committed

-- the step over a reveal, by its judgement
abbrev pub judged_step : Received → Received → Verdict → Step
judged_step a b (V.Good track) = Resolved track
judged_step a b V.BadOpening = Halt
judged_step a b (V.Illegal fault) = Illegal (illegal_clash a b)

-- the step over a reveal, by the commitment that is held of its turn
abbrev pub reveal_step : Game → Track → Option Received → Received → Opening → Step
reveal_step game track None b o = Halt
reveal_step game track (Some a) b o = judged_step a b (judgement game track (digest_of game a.frame) o)

-- the step over what stands in a reveal's slot
abbrev pub frame_step : Game → Track → Option Received → Received → TurnFrame → Step
frame_step game track before r (Commit p t d) = Halt
frame_step game track before r (Reveal p t m n) = reveal_step game track before r (record { player = p; turn = t; mv = m; nonce = n })

abbrev pub slot_step : Game → Track → Option Received → Option Received → Step
slot_step game track before None = Halt
slot_step game track before (Some r) = frame_step game track before r r.frame

-- the step over a reveal that opens the commitment that is held of its turn, by its move
abbrev pub move_step : Game → Track → Option Received → Received → ℕ → Move → Step
move_step game track None b p m = Halt
move_step game track (Some a) b p m = judged_step a b (by_rules (verdict game p track m))

abbrev pub opened_step : Game → Track → Option Received → Received → TurnFrame → Step
opened_step game track before r (Commit p t d) = Halt
opened_step game track before r (Reveal p t m n) = move_step game track before r p m

-- the commitment and the reveal of a turn have one digest, but in the turn of the bad opening, if there is one
abbrev pub AgreeBut : Game → List (Option Received) → Option Finding → Type 0
AgreeBut game ss bad = (t : ℕ) (c g : Received) → slot ss (2 * t) ≡ Some c → slot ss (2 * t + 1) ≡ Some g → same_digest game c g ≡ not (is_of bad t)

-- the next frame is a commitment, as many turns ahead as players commit
abbrev pub is_commit_next : Game → Stream → Bool
is_commit_next game at = commits_next game at.commits at.resolved

-- the step over the reveal of the first turn that isn't resolved
abbrev pub turn_step : Game → List (Option Received) → Stream → Step
turn_step game ss at = slot_step game at.track (slot ss (2 * at.resolved)) (slot ss (2 * at.resolved + 1))

-- the step over the next frame
abbrev pub step_from : Game → List (Option Received) → Stream → Step
step_from game ss at = if is_commit_next game at then commit_step (slot ss (2 * at.commits)) else turn_step game ss at

-- a walk ends with the step
abbrev pub is_stop : Step → Bool
is_stop Committed = false
is_stop (Resolved track) = false
is_stop Halt = true
is_stop (Illegal clash) = true

-- what a step over an illegal reveal shows
abbrev pub illegal_in : Step → Option Finding
illegal_in Committed = None
illegal_in (Resolved track) = None
illegal_in Halt = None
illegal_in (Illegal clash) = Some clash

-- what the reveal of the first turn that isn't resolved shows, if it is illegal
abbrev pub illegal_at : Game → List (Option Received) → Stream → Option Finding
illegal_at game ss at = illegal_in (turn_step game ss at)

-- so much of the player's stream is there, and leads to this track
pub record IsThere (game : Game) (q : ℕ) (ss : List (Option Received)) (at : Stream) : Type 0 where
  pub known : known_to game q (frames_in (in_order ss)) (at.commits + at.resolved) ≡ shown ss at.commits at.resolved
  pub track : at.track ≡ track_after game q (shown ss at.commits at.resolved).moves

-- what is there, and no more of it
pub record IsWalked (game : Game) (q : ℕ) (ss : List (Option Received)) (at : Stream) : Type 0 where
  pub stream : IsThere game q ss at
  pub whole : next_known game q (frames_in (in_order ss)) (shown ss at.commits at.resolved) ≡ shown ss at.commits at.resolved
