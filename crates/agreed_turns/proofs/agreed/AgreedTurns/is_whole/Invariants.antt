use Rattle.std.proofs.Common.{List, ℕ, ◌<◌, ◌≡◌}
use Rattle.definitions.specs.declared.logs.Entry.{Entry}
use Rattle.agreed_turns.specs.Agreed.{agreed_count}
use Rattle.agreed_turns.specs.States.{IsOf}
use Rattle.agreed_turns.proofs.agreed.AgreedTurns.is_whole.Given as goal

abbrev pub invariant-loop-player : goal.invariant-loop-player
invariant-loop-player l = (logs : List (List Entry)) → IsOf l.self.game logs l.self → (k : ℕ) → k < l.player → agreed_count l.self.game logs k ≡ l.self.game.turns
