use Rattle.std.proofs.Common.{IsTrue, List, length, ◌≡◌}
use Rattle.definitions.specs.declared.frames.TurnFrame.{TurnFrame}
use Rattle.definitions.specs.World.{is_open}
use Rattle.frame_index.specs.Streams.{IsReadFrom}
use Rattle.agreed_turns.specs.Heads.{GoesOn, Shows, left_of}
use Rattle.agreed_turns.proofs.turns.read_on.Given as goal

abbrev pub invariant-places : goal.invariant-places
invariant-places l = record {
  accords : length l.accords ≡ l.session.turns;
  track : IsTrue (is_open l.session.grid l.at.track.at);
  on : (fs : List TurnFrame) → Shows l.session l.index l.log l.player fs → IsReadFrom l.session l.player fs l.initial.at →
      GoesOn l.session l.player fs l.initial.at l.at l.initial.accords l.accords;
}

abbrev pub decreases-places : goal.decreases-places
decreases-places l = left_of l.session l.at
