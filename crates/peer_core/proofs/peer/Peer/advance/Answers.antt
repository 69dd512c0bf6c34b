use Rattle.std.proofs.Common.{◌≡◌, ◌∙◌, List, ap, subst}
use Rattle.definitions.specs.declared.answers.Need.{Need}
use Rattle.definitions.specs.Lists.{is_empty}
use Rattle.definitions.specs.Needs.{needs}
use Rattle.definition_laws.specs.First.{finding_of_log}
use Rattle.peer_core.specs.Views.{PeerState}
use Rattle.peer_core.proofs.Choices.{progress_is, empty_is}
use Rattle.peer_core.proofs.peer.Peer.advance.Goals as goal

pub returns-clause-progress : goal.returns-clause-progress
returns-clause-progress c =
    let none : c.is_empty-no_needs.result ≡ is_empty (needs c.self.inside.session c.self.inside.me c.self.inside.entries.items)
    = empty_is c.is_empty-no_needs.result c.as_slice.result.now c.is_empty-no_needs.ensures ∙ ap (λ (ns : List Need). is_empty ns) (c.as_slice.ensures.items ∙ c.self.invariant.0.needs_are) in
    let Is : PeerState → Type 0 = λ v. c.is_empty-no_needs.result ≡ is_empty (needs v.game v.me v.entries) in
    let First : PeerState → Type 0 = λ v. c.self.inside.found ≡ finding_of_log v.game v.entries in
    c.progress_of.ensures ∙ progress_is c.args.self.now.game c.args.self.now.me c.args.self.now.entries _ c.make_all-count.result c.may_choose-chooses.result c.is_empty-no_needs.result
    (subst First c.self.view_is c.self.invariant.0.found_is) c.make_all-count.ensures.count c.may_choose-chooses.ensures (subst Is c.self.view_is none)
