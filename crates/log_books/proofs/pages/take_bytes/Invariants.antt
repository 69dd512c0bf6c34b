use Rattle.std.proofs.Common.{drop, length, ◌+◌, ◌-◌, ◌<◌, ◌≡◌, ◌≤◌}
use Rattle.definitions.specs.declared.limits.TheConstants.{LONGEST_LOG}
use Rattle.session_log.specs.Fed.{IsFeedOf}
use Rattle.session_log.specs.Feeding.{LogFeeding}
use Rattle.auditor.specs.Taking.{IsFeeding, LeavesOthers}
use Rattle.log_books.proofs.Heeding.{IsSoFar}
use Rattle.log_books.proofs.pages.take_bytes.Given as goal

abbrev pub invariant-batches : goal.invariant-batches
invariant-batches l = record {
  at : l.at ≤ length l.bytes;
  few : l.feed.used + (length l.bytes - l.at) ≤ LONGEST_LOG;
  within : l.feed.used + (length l.bytes - l.at) ≤ l.fn.feed.used + length l.bytes;
  feeding : IsFeeding l.auditor l.player l.feed;
  room : 0 < length l.room;
  session : l.auditor.session ≡ l.fn.auditor.session;
  game : l.agreed.game ≡ l.fn.agreed.game;
  others : LeavesOthers l.fn.auditor l.auditor l.player;
  so : (f : LogFeeding) → IsFeedOf l.fn.feed f → IsSoFar l.fn.auditor.session l.player l.fn.auditor l.auditor l.fn.agreed l.agreed l.feed f l.bytes (drop l.at l.bytes);
}

abbrev pub decreases-batches : goal.decreases-batches
decreases-batches l = length l.bytes - l.at
