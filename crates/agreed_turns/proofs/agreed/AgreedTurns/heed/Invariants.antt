use Rattle.std.proofs.Common.{List, Some, take, ◌++◌, ◌≡◌}
use Rattle.std.specs.Prelude.{slice_get}
use Rattle.definitions.specs.declared.logs.Entry.{Entry}
use Rattle.agreed_turns.specs.Heads.{Hold}
use Rattle.agreed_turns.specs.States.{IsOf}
use Rattle.agreed_turns.proofs.Heeding.{AreHeeding}
use Rattle.agreed_turns.proofs.agreed.AgreedTurns.heed.Given as goal

abbrev pub invariant-loop-entry : goal.invariant-loop-entry
invariant-loop-entry l = record {
  game : l.self.game ≡ l.initial.self.game;
  heeding : (logs : List (List Entry)) (h : List Entry) → slice_get logs l.owner ≡ Some h → IsOf l.initial.self.game logs l.initial.self → Hold l.initial.self.game l.got l.made l.owner (h ++ l.entries) →
      AreHeeding l.initial.self.game logs l.owner (h ++ take l.entry-index l.entries) (h ++ l.entries) l.self.players;
}
