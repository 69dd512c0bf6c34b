use Rattle.std.proofs.Common.{◌≡◌, ◌≤◌, length}
use Rattle.std.specs.Prelude.{flat_map}
use Rattle.std.specs.List.{range_with_len}
use Rattle.wait_rule.specs.Waiting as W
use Rattle.wait_rule.specs.Spheres.{Stays}
use Rattle.wait_rule.proofs.rule.add_needs.Given as goal

abbrev pub invariant-loop-q : goal.invariant-loop-q
invariant-loop-q l = record {
  needs : l.out ≡ flat_map (W.need_in l.session l.me l.stage l.views l.fn.meeting.dilation.cells) (range_with_len 0 l.q);
  few : length l.out ≤ l.q;
  stays : Stays l.session l.fn.meeting l.meeting;
}
