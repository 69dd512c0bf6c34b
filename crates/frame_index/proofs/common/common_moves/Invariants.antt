use Rattle.std.proofs.Common.{◌≡◌, ◌<◌, ℕ, List, [], length, IsTrue}
use Rattle.definitions.specs.declared.logs.Entry.{Entry}
use Rattle.definitions.specs.Findings.{findings_in}
use Rattle.definitions.specs.World.{is_open}
use Rattle.frame_index.specs.Frames.{IsIndex}
use Rattle.frame_index.specs.Heads.{front_of}
use Rattle.frame_index.specs.Plain.{AreAlong, IsCommon}
use Rattle.frame_index.proofs.Commonly.{AreCommonTo}
use Rattle.frame_index.proofs.common.common_moves.Given as goal

abbrev pub invariant-loop-turn : goal.invariant-loop-turn
invariant-loop-turn l = record {
  opens : IsTrue (is_open l.session.grid l.common.track.at);
  long : length l.out.items ≡ l.turn;
  common : (logs : List (List Entry)) → IsIndex l.session logs l.index → IsCommon l.session l.player logs l.chosen (front_of l.session l.turn) l.turn l.common;
  along : (logs : List (List Entry)) → IsIndex l.session logs l.index → AreAlong l.session l.player logs l.turn l.common.track;
  none : (logs : List (List Entry)) → IsIndex l.session logs l.index → (t : ℕ) → t < l.turn → findings_in l.session logs l.player t ≡ [];
  told : (logs : List (List Entry)) → IsIndex l.session logs l.index → AreCommonTo l.session l.player logs l.chosen l.turn l.out.items;
}
