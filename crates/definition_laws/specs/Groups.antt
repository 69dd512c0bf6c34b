-- Laws on groups: no group of honest players waits for itself.
use Rattle.std.specs.Prelude.{◌≡◌, ℕ, ◌<◌, ◌≤◌, List, None, Some, IsTrue}
use Rattle.definitions.specs.declared.answers.Need.{Need}
use Rattle.definitions.specs.declared.logs.Entry.{Entry}
use Rattle.definitions.specs.Lists.{EachIs}
use Rattle.definitions.specs.World.{Game}
use Rattle.definitions.specs.Logs.{got_of, made}
use Rattle.definitions.specs.Held.{next_place}
use Rattle.definitions.specs.Findings.{is_clean}
use Rattle.definitions.specs.Honest.{IsHonest, made_count}
use Rattle.definitions.specs.Needs.{may_choose, needs}
use Rattle.definitions.specs.Advance.{next_made}
use Rattle.definitions.specs.Steps.{AreAuthentic, Logs, has_log, log_of}
use Rattle.definition_laws.specs.Members.{Has}
use Rattle.definition_laws.specs.Accusing.{IsAuthentic}
use Rattle.definition_laws.specs.Advancing.{IsDone}
use Rattle.definition_laws.specs.Stepping.{AreHonest}

-- whoever is waited for is behind: its next place is below the number of frames that the owner made
abbrev pub WaitedForAreBehind : Type 0
WaitedForAreBehind = (game : Game) (me : ℕ) (h : List Entry) (n : Need) → 1 ≤ game.ahead → IsHonest game me h → Has (needs game me h) n →
    next_place game me h n.player < made_count h

-- the log got all that the player's own log made
abbrev pub HasAllOf : ℕ → List Entry → List Entry → Type 0
HasAllOf q own h = EachIs (Has (got_of q h)) (made own)

-- where all that an honest player made came over, all of it counts
abbrev pub AllThatCameCounts : Type 0
AllThatCameCounts = (game : Game) (me q : ℕ) (own h : List Entry) → 1 ≤ game.ahead → IsHonest game q own → (q ≡ me → ⊥) → IsAuthentic q own h → HasAllOf q own h →
    made_count own ≤ next_place game me h q

-- no player with a log lacks a frame that another one with a log made
abbrev pub NoneLacks : Logs → Type 0
NoneLacks logs = (p q : ℕ) (g h : List Entry) → log_of logs p ≡ Some g → log_of logs q ≡ Some h → (q ≡ p → ⊥) → HasAllOf q h g

-- the player has no finding, may not choose, has nothing to make, and waits for no player without a log
pub record IsStill (game : Game) (logs : Logs) (p : ℕ) (h : List Entry) : Type 0 where
  pub clean : IsTrue (is_clean game h)
  pub chooses : IsTrue (may_choose game p h) → ⊥
  pub makes : next_made game p h ≡ None
  pub waits : EachIs (λ n. IsTrue (has_log logs n.player)) (needs game p h)

-- where honest players all stand still, lack nothing of each other, and wait for no hostile player, all are done
abbrev pub NoGroupWaitsForItself : Type 0
NoGroupWaitsForItself = (game : Game) (logs : Logs) → 1 ≤ game.ahead → AreHonest game logs → AreAuthentic logs → NoneLacks logs →
    ((p : ℕ) (h : List Entry) → log_of logs p ≡ Some h → IsStill game logs p h) → (p : ℕ) (h : List Entry) → log_of logs p ≡ Some h → IsDone game p h
