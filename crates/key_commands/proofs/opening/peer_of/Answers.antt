use Rattle.std.proofs.Common.{ap, subst}
use Rattle.old_log.specs.Old.{whole_fault}
use Rattle.old_log.specs.Resumed.{IsDue}
use Rattle.old_log.specs.declared.resuming.OldFault.{OldFault}
use Rattle.key_commands.specs.Opened.{made_unless}
use Rattle.key_commands.proofs.Opened.{whole_peer}
use Rattle.key_commands.proofs.opening.peer_of.Goals as goal

pub returns-in-Ok-clause-due : goal.returns-in-Ok-clause-due
returns-in-Ok-clause-due c = whole_peer c.args.session.now c.args.player c.args.bytes.now c.in-Ok.peer c.in-Ok.ensures.exact

pub returns-in-Err-Bad-clause-due : goal.returns-in-Err-Bad-clause-due
returns-in-Err-Bad-clause-due c =
    let due = whole_fault c.args.session.now c.args.player c.args.bytes.now in
    ap (made_unless c.args.session.now c.args.bytes.now) (subst (λ (f : OldFault). IsDue due f) c.in-Err-Bad.field-0-is c.in-Err-Bad.ensures.exact)
