use Rattle.make_command.specs.declared.playing.TheConstants.{MOST_STEPS}
use Rattle.make_command.specs.Matches.{most_steps, played}
use Rattle.make_command.proofs.Steps.{ran_out, stopped, went_on}
use Rattle.std.proofs.Common.{◌-◌}
use Rattle.make_command.proofs.playing.Playing.play.Goals as goal

pub returns-then-not-step : goal.returns-then-not-step
returns-then-not-step c =
    stopped (MOST_STEPS - c.loop-steps.steps) c.loop-steps.self c.step.new.self (played most_steps c.args.self.now) c.step.result c.if-not-step.true c.step.ensures.on c.step.ensures.after c.loop-steps.invariant.rest

pub loop-steps-preserved : goal.loop-steps-preserved
loop-steps-preserved c = record {
  within = c.step.ensures.within;
  rest = went_on MOST_STEPS c.loop-steps.steps c.loop-steps.self c.step.new.self (played MOST_STEPS c.args.self.now) c.step.result c.loop-steps-test.true c.if-not-step.false c.step.ensures.on c.step.ensures.after
      c.loop-steps.invariant.rest;
}

pub returns : goal.returns
returns c = ran_out MOST_STEPS c.loop-steps.steps c.loop-steps.self (played most_steps c.args.self.now) c.loop-steps-test.false c.loop-steps.invariant.rest
