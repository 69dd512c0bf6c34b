use Rattle.std.proofs.Common.{◌≡◌, ◌∙◌, List, ap, sym, subst, length, rules}
use Rattle.std.specs.Prelude.{is_none}
use Rattle.definitions.specs.declared.answers.Need.{Need}
use Rattle.definitions.specs.declared.frames.TurnFrame.{TurnFrame}
use Rattle.definitions.specs.Lists.{is_empty}
use Rattle.definitions.specs.Needs.{needs}
use Rattle.definitions.specs.Honest.{made_count}
use Rattle.definitions.specs.Advance.{next_made}
use Rattle.definition_laws.proofs.FirstFinding.{clean_is_none}
use Rattle.peer_core.specs.Views.{PeerState}
use Rattle.peer_core.proofs.Choices.{next_free, empty_is}
use Rattle.peer_core.specs.Standing.{IsStanding}
use Rattle.peer_core.proofs.Peers.{standing}
use Rattle.peer_core.proofs.peer.Peer.next_made.Goals as goal

pub returns-clause-frame : goal.returns-clause-frame
returns-clause-frame c =
    let inv = c.self.invariant.0 in
    let none : c.is_empty-no_needs.result ≡ is_empty (needs c.self.inside.session c.self.inside.me c.self.inside.entries.items)
    = empty_is c.is_empty-no_needs.result c.as_slice.result.now c.is_empty-no_needs.ensures ∙ ap (λ (ns : List Need). is_empty ns) (c.as_slice.ensures.items ∙ inv.needs_are) in
    let count : c.len.result ≡ length c.self.inside.frames.items = search rules in
    let made : c.len.result ≡ made_count c.self.inside.entries.items = count ∙ ap (λ (fs : List TurnFrame). length fs) inv.frames_are in
    let clean : c.is_none-clean.result ≡ is_none c.self.inside.found = search rules in
    let Is : PeerState → Type 0 = λ v. c.next_of.result ≡ next_made v.game v.me v.entries in
    subst Is c.self.view_is (c.next_of.ensures ∙ next_free c.self.inside.session c.self.inside.me c.len.result c.self.inside.entries.items c.as_slice-2.result.now c.is_none-clean.result c.is_empty-no_needs.result
    c.facts.ensures inv.honest (clean ∙ sym (clean_is_none c.self.inside.session c.self.inside.entries.items c.self.inside.found inv.found_is)) none (c.as_slice-2.ensures.value ∙ inv.openings_are) made)

pub returns-clause-facts : goal.returns-clause-facts
returns-clause-facts c =
    let Is : PeerState → Type 0 = λ v. IsStanding v in
    subst Is c.self.view_is (standing _ _ _ _ _ _ _ _ _ c.facts.ensures c.self.invariant.0)
