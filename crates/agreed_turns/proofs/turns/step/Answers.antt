use Rattle.agreed_turns.proofs.GoingOn.{no_slot}
use Rattle.agreed_turns.proofs.turns.step.Goals as goal

pub returns-in-None-clause-on : goal.returns-in-None-clause-on
returns-in-None-clause-on c fs shows read = no_slot c.args.session.now c.args.player fs c.args.stream.now c.args.accords.now read c.in-None.ensures.slot
