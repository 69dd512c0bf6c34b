use Rattle.std.proofs.Common.{List, subst, sym}
use Rattle.definitions.specs.declared.logs.Entry.{Entry}
use Rattle.definitions.specs.Honest.{IsHonest}
use Rattle.definition_laws.proofs.Deliveries.{begin_authentic, session_authentic}
use Rattle.definition_laws.proofs.ForPeers.{honest_empty}
use Rattle.definition_laws.proofs.Stepping.{choice_honest, got_honest, run_honest, session_honest, stop_honest}
use Rattle.definition_laws.proofs.steps.session_steps.Goals as goal

pub returns-clause-steps : goal.returns-clause-steps
returns-clause-steps c game me h d i =
    ((λ m n. choice_honest game me h m n d i), (λ q f. got_honest game me q h f i), (λ keep. stop_honest game me keep h i))

pub returns-clause-runs : goal.returns-clause-runs
returns-clause-runs c = run_honest

pub returns-clause-sessions : goal.returns-clause-sessions
returns-clause-sessions c = session_honest

pub returns-clause-authentic : goal.returns-clause-authentic
returns-clause-authentic c = session_authentic

pub returns-clause-begin : goal.returns-clause-begin
returns-clause-begin c game logs none =
    ((λ q h e. subst (λ (k : List Entry). IsHonest game q k) (sym (none q h e)) (honest_empty game q)), begin_authentic logs none)
