use Rattle.std.proofs.Common.{◌≡◌, drop}
use Rattle.std.specs.List.{fold}
use Rattle.live_deposit.specs.Polling.{woken_at}
use Rattle.live_deposit.proofs.sending.heed_all.Given as goal

abbrev pub invariant-loop-item : goal.invariant-loop-item
invariant-loop-item l = fold woken_at l.line (drop l.item-index l.list) ≡ fold woken_at l.fn.line l.list
