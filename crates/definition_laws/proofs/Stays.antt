-- In an honest log, what may be made next stays allowed as the log grows.
use Rattle.std.proofs.Common.{List, arith, true, ℕ, ◌++◌, ◌<◌, ◌≡◌, ◌≤◌}
use Rattle.definitions.specs.Places.{commit_place, reveal_place}
use Rattle.definitions.specs.Honest.{IsHonest, made_count, may_commit, may_reveal}
use Rattle.definitions.specs.World.{Game}
use Rattle.definitions.specs.declared.logs.Entry.{Entry}
use Rattle.definition_laws.proofs.Permits.{may_commit_later, may_reveal_later}
use Rattle.definition_laws.proofs.OwnLog.{resolved_count_at_commit, resolved_count_at_reveal}

pub reveal_stays : (game : Game) (me t : ℕ) (g h : List Entry) → 1 ≤ game.ahead → IsHonest game me g → t < game.turns → made_count g ≡ reveal_place game t →
    may_reveal game me g t ≡ true → may_reveal game me (g ++ h) t ≡ true
reveal_stays game me t g h d i lt at may =
    let n = resolved_count_at_reveal game me t g d i lt at in may_reveal_later game me t g h (omega arith) may

pub commit_stays : (game : Game) (me t : ℕ) (g h : List Entry) → 1 ≤ game.ahead → IsHonest game me g → t < game.turns → made_count g ≡ commit_place game t →
    may_commit game me g t ≡ true → may_commit game me (g ++ h) t ≡ true
commit_stays game me t g h d i lt at may =
    let n = resolved_count_at_commit game me t g d i lt at in may_commit_later game me t g h (omega arith) may
