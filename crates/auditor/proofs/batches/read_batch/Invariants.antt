use Rattle.std.proofs.Common.{drop, length, take, true, ◌+◌, ◌-◌, ◌≡◌, ◌≤◌}
use Rattle.std.specs.List.{list_all}
use Rattle.auditor.specs.Audits.{is_of_its_sender}
use Rattle.auditor.specs.Taking.{ReadsOn}
use Rattle.auditor.proofs.batches.read_batch.Given as goal

abbrev pub invariant-entries : goal.invariant-entries
invariant-entries l = record {
  fits : length l.room ≡ length l.fn.room;
  count : l.count ≤ length l.room;
  from : l.at + l.count ≤ l.place;
  to : l.place ≤ length l.piece;
  used : l.feed.used ≡ l.fn.feed.used + (l.place - l.at);
  reads : ReadsOn l.session l.fn.feed l.feed (drop l.at l.piece) (drop l.place l.piece) (take l.count l.room);
  sent : list_all is_of_its_sender (take l.count l.room) ≡ true;
}

abbrev pub decreases-entries : goal.decreases-entries
decreases-entries l = length l.room - l.count
