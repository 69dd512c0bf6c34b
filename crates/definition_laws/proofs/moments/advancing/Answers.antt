use Rattle.definition_laws.proofs.Advances.{advance_ends, advance_honest}
use Rattle.definition_laws.proofs.ForPeers.{advance_step, advance_still, none_allowed}
use Rattle.definition_laws.proofs.Silent.{findings_advance}
use Rattle.definitions.specs.Advance.{advance}
use Rattle.definition_laws.proofs.moments.advancing.Goals as goal

pub returns-clause-ends : goal.returns-clause-ends
returns-clause-ends c = advance_ends

pub returns-clause-nothing : goal.returns-clause-nothing
returns-clause-nothing c game me h f d i = none_allowed game me (advance game me h) f d (advance_honest game me h i) (advance_ends game me h d)

pub returns-clause-honest : goal.returns-clause-honest
returns-clause-honest c = advance_honest

pub returns-clause-steps : goal.returns-clause-steps
returns-clause-steps c game me h d = ((λ f e. advance_step game me h f d e), advance_still game me h)

pub returns-clause-findings : goal.returns-clause-findings
returns-clause-findings c = findings_advance
