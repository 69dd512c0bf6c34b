use Rattle.std.proofs.Common.{ap}
use Rattle.drive_command.specs.Driven.{Driven}
use Rattle.drive_command.proofs.Choices.{got_longer}
use Rattle.drive_command.proofs.Parts.{turn_told}
use Rattle.drive_command.proofs.driver.Driver.take.Goals as goal

pub returns-in-Turn-clause-text : goal.returns-in-Turn-clause-text
returns-in-Turn-clause-text c =
    turn_told _ _ _ _ c.args.from c.args.frame.now c.in-Turn.frame c.receive.result c.in-Turn.is c.receive.ensures.place c.receive.ensures.answer c.receive.ensures.entries
    (ap (λ (d : Driven). d.state.log) c.receive.ensures.after)

pub returns-in-Turn-clause-before : goal.returns-in-Turn-clause-before
returns-in-Turn-clause-before c = rw (c.receive.ensures.after, c.receive.ensures.entries) (got_longer _ _ _ c.args.from c.in-Turn.frame)
