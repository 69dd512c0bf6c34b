-- Laws on steps: what may happen to the logs of a session leaves them honest and authentic.
use Rattle.std.specs.Prelude.{◌≡◌, ℕ, ◌≤◌, List, [], Some}
use Rattle.definitions.specs.declared.world.Move.{Move}
use Rattle.definitions.specs.declared.openings.Nonce.{Nonce}
use Rattle.definitions.specs.declared.frames.TurnFrame.{TurnFrame}
use Rattle.definitions.specs.declared.logs.Entry.{Entry}
use Rattle.definitions.specs.World.{Game}
use Rattle.definitions.specs.Honest.{IsHonest}
use Rattle.definitions.specs.Steps.{AreAuthentic, LogStep, Logs, Step, after_choice, after_got, after_stop, log_of, log_run, run}

-- the log after a choice, after a frame came, or after a stop, is honest where it was
abbrev pub StepsKeepHonest : Type 0
StepsKeepHonest = (game : Game) (me : ℕ) (h : List Entry) → 1 ≤ game.ahead → IsHonest game me h →
    ((m : Move) (n : Nonce) → IsHonest game me (after_choice game me h m n)) ×
    ((q : ℕ) (f : TurnFrame) → IsHonest game me (after_got game me h q f)) ×
    ((keep : ℕ) → IsHonest game me (after_stop game me h keep))

-- the log after all these steps is honest where it was
abbrev pub RunsKeepHonest : Type 0
RunsKeepHonest = (game : Game) (me : ℕ) (h : List Entry) (ss : List LogStep) → 1 ≤ game.ahead → IsHonest game me h → IsHonest game me (log_run game me h ss)

-- each player that has a log has an honest one
abbrev pub AreHonest : Game → Logs → Type 0
AreHonest game logs = (q : ℕ) (h : List Entry) → log_of logs q ≡ Some h → IsHonest game q h

-- the honest players' logs stay honest, whatever the hostile players send
abbrev pub SessionsKeepHonest : Type 0
SessionsKeepHonest = (game : Game) (logs : Logs) (ss : List Step) → 1 ≤ game.ahead → AreHonest game logs → AreHonest game (run game logs ss)

-- what the honest players' logs got of honest players stays among what those made
abbrev pub SessionsKeepAuthentic : Type 0
SessionsKeepAuthentic = (game : Game) (logs : Logs) (ss : List Step) → AreAuthentic logs → AreAuthentic (run game logs ss)

-- logs without entries are honest and authentic
abbrev pub SessionsBeginHonest : Type 0
SessionsBeginHonest = (game : Game) (logs : Logs) → ((q : ℕ) (h : List Entry) → log_of logs q ≡ Some h → h ≡ []) → AreHonest game logs × AreAuthentic logs
