use Rattle.std.proofs.Common.{◌≡◌, ◌<◌, None, length, ℕ}
use Rattle.definitions.specs.Lists.{item_or}
use Rattle.frame_index.specs.Plain.{is_among}
use Rattle.auditor.specs.Accords.{is_own}
use Rattle.auditor.proofs.auditor.Auditor.own_logs.Given as goal

abbrev pub invariant-loop-at : goal.invariant-loop-at
invariant-loop-at l = record {
  long : length l.chosen ≡ 64;
  told : (i : ℕ) → i < l.at → is_among l.chosen i ≡ is_own (item_or l.self.owners i None) l.player;
}
