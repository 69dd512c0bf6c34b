use Rattle.std.proofs.Common.{◌∙◌, ap, sym}
use Rattle.peer_core.specs.declared.views.Choice.{Choice}
use Rattle.peer_core.proofs.Choices.{refused_now, refused_illegal, not_refused}
use Rattle.peer_core.proofs.peer.Peer.choose.Goals as goal

pub returns-then-not-may_choose-clause-fault : goal.returns-then-not-may_choose-clause-fault
returns-then-not-may_choose-clause-fault c = refused_now _ _ _ _ _ c.may_choose.ensures c.if-not-may_choose.true

pub returns-in-Err-clause-fault : goal.returns-in-Err-clause-fault
returns-in-Err-clause-fault c =
    refused_illegal _ _ _ c.args.mv _ c.choice-choice.result.track _ c.may_choose.ensures c.if-not-may_choose.false (ap (λ (k : Choice). k.track) c.choice-choice.ensures)
    (sym c.in-Err.is ∙ c.judge.ensures.verdict)

pub returns-in-Ok-clause-fault : goal.returns-in-Ok-clause-fault
returns-in-Ok-clause-fault c =
    not_refused _ _ _ c.args.mv _ c.choice-choice.result.track _ c.may_choose.ensures c.if-not-may_choose.false (ap (λ (k : Choice). k.track) c.choice-choice.ensures)
    (sym c.in-Ok.is ∙ c.judge.ensures.verdict)
