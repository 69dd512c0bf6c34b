use Rattle.std.proofs.Common.{Option, Some, None, ap, refl, subst, sym, ◌≡◌, ◌∙◌}
use Rattle.std.specs.Prelude.{is_none, not}
use Rattle.std.specs.Option.{is_some}
use Rattle.definitions.specs.declared.findings.Finding.{Finding}
use Rattle.definitions.specs.Findings.{is_clean}
use Rattle.definition_laws.proofs.FirstFinding.{clean_is_none}
use Rattle.peer_core.specs.Views.{PeerState}
use Rattle.peer_core.proofs.peer.Peer.finding.Goals as goal

some_not_none : (o : Option Finding) → is_some o ≡ not (is_none o)
some_not_none None = refl
some_not_none (Some f) = refl

pub returns-clause-clean : goal.returns-clause-clean
returns-clause-clean c =
    let Is : PeerState → Type 0 = λ v. is_some c.self.inside.found ≡ not (is_clean v.game v.entries) in
    subst Is c.self.view_is (some_not_none c.self.inside.found ∙
    ap not (sym (clean_is_none c.self.inside.session c.self.inside.entries.items c.self.inside.found c.self.invariant.0.found_is)))
