use Rattle.std.proofs.Common.{◌≡◌, ◌-◌}
use Rattle.make_command.specs.declared.playing.TheConstants.{MOST_STEPS}
use Rattle.make_command.specs.Bounds.{AreWithin}
use Rattle.make_command.specs.Matches.{played}
use Rattle.make_command.proofs.playing.Playing.play.Given as goal

abbrev pub invariant-loop-steps : goal.invariant-loop-steps
invariant-loop-steps l = record {
  within : AreWithin l.self.counts l.steps;
  rest : played (MOST_STEPS - l.steps) l.self ≡ played MOST_STEPS l.initial.self;
}
