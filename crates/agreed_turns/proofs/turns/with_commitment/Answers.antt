use Rattle.std.proofs.Common.{List, None, Some, ◌≡◌}
use Rattle.definitions.specs.declared.frames.TurnFrame.{TurnFrame}
use Rattle.definitions.specs.Held.{first_commit}
use Rattle.agreed_turns.proofs.GoingOn.{commit_goes, no_commitment, shown_by}
use Rattle.agreed_turns.proofs.turns.with_commitment.Goals as goal

pub returns-in-None-clause-on : goal.returns-in-None-clause-on
returns-in-None-clause-on c fs accords shows read next =
    no_commitment c.args.session.now c.args.player fs c.args.stream.now accords read next
    (shown_by (λ (gs : List TurnFrame). None ≡ first_commit gs c.args.stream.now.commits) shows (λ logs h index there. c.in-None.ensures c.args.session.now logs h index there))

pub returns-in-Some-clause-on : goal.returns-in-Some-clause-on
returns-in-Some-clause-on c fs accords shows read next =
    commit_goes c.args.session.now c.args.player fs c.args.stream.now accords c.in-Some.field-0 read next
    (shown_by (λ (gs : List TurnFrame). Some c.in-Some.field-0 ≡ first_commit gs c.args.stream.now.commits) shows (λ logs h index there. c.in-Some.ensures c.args.session.now logs h index there))
