-- Theorem: what holds of the logs of a match behind every list of steps.
use Rattle.std.specs.Prelude.{◌≡◌, ℕ, ◌<◌, ◌≤◌, ◌↔◌, false, List, [], ◌∷◌, Some, slice_get, IsTrue}
use Rattle.definitions.specs.declared.world.Move.{Move}
use Rattle.definitions.specs.declared.openings.Opening.{Opening}
use Rattle.definitions.specs.declared.logs.Entry.{Entry}
use Rattle.definitions.specs.declared.findings.Finding.{Finding}
use Rattle.definitions.specs.Lists.{EachIs}
use Rattle.definitions.specs.World.{Game, players_of}
use Rattle.definitions.specs.Logs.{chosen}
use Rattle.definitions.specs.Held.{resolved}
use Rattle.definitions.specs.Findings.{findings, is_clean}
use Rattle.definitions.specs.Needs.{may_choose, needs}
use Rattle.definitions.specs.Steps.{AreAuthentic, Logs, Step, has_log, log_of}
use Rattle.definition_laws.specs.Members.{Has}
use Rattle.definition_laws.specs.Spots.{ShowsTwoFaces}
use Rattle.definition_laws.specs.Groups.{NoneLacks}
use Rattle.definition_laws.specs.Stepping.{AreHonest}
use Rattle.schedule.specs.declared.stands.Stand.TheVariants.{Finished}
use Rattle.schedule.specs.Stands.{AreAllDone, stand}
use Rattle.schedule.specs.Steps.{logs_after}

-- the log is an honest player's
abbrev pub IsHonestPlayers : Logs → List Entry → Type 0
IsHonestPlayers logs h = (p : ℕ) × (log_of logs p ≡ Some h)

-- no finding of honest players' logs, however many of them are laid together, names an honest player
abbrev pub NamesNoHonest : Game → Logs → Type 0
NamesNoHonest game logs = (some : List (List Entry)) (f : Finding) → EachIs (IsHonestPlayers logs) some → Has (findings game some) f → has_log logs f.player ≡ false

-- a move that an honest player's log accepts for another honest one is the one that this one chose for the turn
abbrev pub AcceptsWhatWasChosen : Game → Logs → Type 0
AcceptsWhatWasChosen game logs = (p q t : ℕ) (h own : List Entry) (m : Move) → log_of logs p ≡ Some h → log_of logs q ≡ Some own → (q ≡ p → ⊥) →
    resolved game p h q t ≡ Some m → (o : Opening) × (slice_get (chosen q own) t ≡ Some o) × (o.mv ≡ m)

-- two honest players' logs that accept different moves for a hostile player's turn convict it: by two commitments, or by two
-- openings with one digest
abbrev pub DifferentMovesConvict : Game → Logs → Type 0
DifferentMovesConvict game logs = (p r q t : ℕ) (g h : List Entry) (m k : Move) → log_of logs p ≡ Some g → log_of logs r ≡ Some h → q < players_of game → has_log logs q ≡ false →
    resolved game p g q t ≡ Some m → resolved game r h q t ≡ Some k → (m ≡ k → ⊥) → (f : Finding) × ShowsTwoFaces game (g ∷ h ∷ []) q t f

-- the honest player has no finding, may not choose, and waits for no hostile player
pub record IsIdle (game : Game) (logs : Logs) (p : ℕ) (h : List Entry) : Type 0 where
  pub clean : IsTrue (is_clean game h)
  pub chooses : IsTrue (may_choose game p h) → ⊥
  pub waits : EachIs (λ n. IsTrue (has_log logs n.player)) (needs game p h)

-- where none is caught, none may choose, none lacks a frame that another honest one made, and no hostile player is waited for, all are done
abbrev pub NoneIsStuck : Game → Logs → Type 0
NoneIsStuck game logs = ((p : ℕ) (h : List Entry) → log_of logs p ≡ Some h → IsIdle game logs p h) → NoneLacks logs → AreAllDone game logs

-- all of that, and the stand is finished exactly where all honest players are done
pub record HoldsOfAll (game : Game) (logs : Logs) : Type 0 where
  pub honest : AreHonest game logs
  pub authentic : AreAuthentic logs
  pub unnamed : NamesNoHonest game logs
  pub accepted : AcceptsWhatWasChosen game logs
  pub convicted : DifferentMovesConvict game logs
  pub stuck : NoneIsStuck game logs
  pub finished : (stand game logs ≡ Finished) ↔ AreAllDone game logs

-- it holds behind every list of steps, whoever is hostile
abbrev pub SchedulesHold : Type 0
SchedulesHold = (game : Game) (hostile : ℕ) (steps : List Step) → 1 ≤ game.ahead → HoldsOfAll game (logs_after game hostile steps)
