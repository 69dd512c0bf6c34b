use Rattle.std.proofs.Common.{arith}
use Rattle.watch_command.proofs.Rounds.{agreed, deaf, on}
use Rattle.watch_command.proofs.watching.play_rounds.Goals as goal

pub rounds-preserved : goal.rounds-preserved
rounds-preserved g c = record {
  underway =
      on _ c.args.polls _ _ _ c.rounds.watch c.round.new.self c.rounds.invariant.underway
      c.in-On.ensures;
  few = omega arith;
}

pub returns-in-Agreed : goal.returns-in-Agreed
returns-in-Agreed g c =
    agreed _ _ c.rounds.made _ _ c.rounds.watch c.round.new.self c.rounds.invariant.underway
    c.rounds-test.true c.in-Agreed.ensures

pub returns-in-PollFault : goal.returns-in-PollFault
returns-in-PollFault g c =
    deaf _ _ c.rounds.made _ _ c.rounds.watch c.round.new.self c.rounds.invariant.underway
    c.rounds-test.true c.in-PollFault.ensures
