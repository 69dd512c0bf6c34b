use Rattle.std.proofs.Common.{◌≡◌, ◌<◌, ℕ, List, [], IsTrue}
use Rattle.definitions.specs.declared.logs.Entry.{Entry}
use Rattle.definitions.specs.Findings.{findings_in}
use Rattle.definitions.specs.World.{is_open}
use Rattle.frame_index.specs.Frames.{IsIndex}
use Rattle.frame_index.specs.Plain.{AreAlong}
use Rattle.frame_index.proofs.plain.is_plain_player.Given as goal

abbrev pub invariant-loop-turn : goal.invariant-loop-turn
invariant-loop-turn l = record {
  track : IsTrue (is_open l.session.grid l.track.at);
  along : (logs : List (List Entry)) → IsIndex l.session logs l.index → AreAlong l.session l.player logs l.turn l.track;
  none : (logs : List (List Entry)) → IsIndex l.session logs l.index → (t : ℕ) → t < l.turn → findings_in l.session logs l.player t ≡ [];
}
