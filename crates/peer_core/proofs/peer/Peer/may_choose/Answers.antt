use Rattle.std.proofs.Common.{◌≡◌, ◌∙◌, List, ap, sym, subst, length, rules}
use Rattle.std.specs.Prelude.{is_none}
use Rattle.definitions.specs.declared.answers.Need.{Need}
use Rattle.definitions.specs.declared.openings.Opening.{Opening}
use Rattle.definitions.specs.declared.frames.TurnFrame.{TurnFrame}
use Rattle.definitions.specs.Lists.{is_empty}
use Rattle.definitions.specs.Needs.{needs, may_choose}
use Rattle.definitions.specs.Honest.{made_count}
use Rattle.definition_laws.proofs.FirstFinding.{clean_is_none}
use Rattle.peer_core.specs.Views.{PeerState}
use Rattle.peer_core.proofs.Choices.{chooses_free, empty_is}
use Rattle.peer_core.proofs.peer.Peer.may_choose.Goals as goal

pub returns : goal.returns
returns c =
    let inv = c.self.invariant.0 in
    let none : c.is_empty-no_needs.result ≡ is_empty (needs c.self.inside.session c.self.inside.me c.self.inside.entries.items)
    = empty_is c.is_empty-no_needs.result c.as_slice.result.now c.is_empty-no_needs.ensures ∙ ap (λ (ns : List Need). is_empty ns) (c.as_slice.ensures.items ∙ inv.needs_are) in
    let count : c.len.result ≡ length c.self.inside.frames.items = search rules in
    let made : c.len.result ≡ made_count c.self.inside.entries.items = count ∙ ap (λ (fs : List TurnFrame). length fs) inv.frames_are in
    let chosen : c.len-2.result ≡ length c.self.inside.openings.items = search rules in
    let clean : c.is_none-clean.result ≡ is_none c.self.inside.found = search rules in
    let Is : PeerState → Type 0 = λ v. c.chooses.result ≡ may_choose v.game v.me v.entries in
    subst Is c.self.view_is (c.chooses.ensures ∙ chooses_free c.self.inside.session c.self.inside.me c.len.result c.len-2.result c.self.inside.entries.items c.is_none-clean.result c.is_empty-no_needs.result
    c.facts.ensures inv.honest (clean ∙ sym (clean_is_none c.self.inside.session c.self.inside.entries.items c.self.inside.found inv.found_is)) none made (chosen ∙ ap (λ (os : List Opening). length os) inv.openings_are))
