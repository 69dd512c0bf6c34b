use Rattle.std.proofs.Common.{◌≡◌, ◌≤◌, List, length}
use Rattle.std.specs.Prelude.{flat_map}
use Rattle.std.specs.List.{range_with_len}
use Rattle.definitions.specs.declared.logs.Entry.{Entry}
use Rattle.definitions.specs.Findings.{findings_in}
use Rattle.frame_index.specs.declared.limits.TheConstants.{MOST_LOGS}
use Rattle.frame_index.specs.Frames.{IsIndex}
use Rattle.frame_index.proofs.listing.findings.Given as goal

abbrev pub invariant-loop-player : goal.invariant-loop-player
invariant-loop-player l = (logs : List (List Entry)) → length logs ≤ MOST_LOGS → IsIndex l.session logs l.index →
    l.out.items ≡ flat_map (λ q. flat_map (findings_in l.session logs q) (range_with_len 0 l.session.turns)) (range_with_len 0 l.player)
