use Rattle.std.proofs.Common.{◌≡◌, ◌∙◌, ◌<◌, ap, length, refl, subst, sym}
use Rattle.definitions.specs.Lists.{EachIs}
use Rattle.definitions.specs.World.{players_of}
use Rattle.wait_rule.specs.Spheres.{cells_in}
use Rattle.definitions.specs.declared.world.Track.{Track}
use Rattle.peer_window.specs.Windows.{Seen}
use Rattle.peer_core.specs.Others.{Known, AreOthers, view_of}
use Rattle.peer_core.proofs.Tables.{window_at, offered_below, offered_there, offered_open, offered_read}
use Rattle.peer_core.proofs.Unheld.{unheld_set}
use Rattle.peer_core.proofs.others.Others.offer.Goals as goal
use Rattle.definition_laws.proofs.Room.{other_player}

pub invariant_of-self : goal.invariant_of-self
invariant_of-self c = unheld_set c.self.inside.views.items c.self.inside.bare.items c.from-at.result c.view_of-view.result c.unheld.result c.self.invariant c.unheld.ensures

pub offer-offer-requires-clause-later : goal.offer-offer-requires-clause-later
offer-offer-requires-clause-later c =
    let IsKnown : Known → Type 0 = λ o. AreOthers c.args.session.now c.args._me c.args.entries.now o in
    let all = subst IsKnown (sym c.self.view_is) c.requires.others in
    let from = other_player c.args.session.now c.args._me c.args.from c.args.frame.now c.requires.from in
    let at = window_at c.args.session.now c.args._me c.args.from c.from-at.result c.args.entries.now _ c.index_mut.result.now c.from-at.ensures from.0 from.1 all in
    let Below : Seen → Type 0 = λ w. EachIs (λ r. r.entry < length c.args.entries.now) w.frames in
    subst Below (sym c.index_mut.ensures.value) (offered_below c.args.session.now c.args._me c.args.from c.args.entries.now _ at)

pub resolved-requires-clause-rule : goal.resolved-requires-clause-rule
resolved-requires-clause-rule c =
    let IsKnown : Known → Type 0 = λ o. AreOthers c.args.session.now c.args._me c.args.entries.now o in
    let all = subst IsKnown (sym c.self.view_is) c.requires.others in all.rule_is

pub resolved-requires-clause-open : goal.resolved-requires-clause-open
resolved-requires-clause-open c =
    let IsKnown : Known → Type 0 = λ o. AreOthers c.args.session.now c.args._me c.args.entries.now o in
    let all = subst IsKnown (sym c.self.view_is) c.requires.others in
    offered_open c.args.session.now c.args._me c.args.from c.from-at.result c.args.entries.now c.args.frame.now _ c.offer-offer.new.self c.index-2.result.now c.track.result c.facts.ensures c.from-at.ensures c.requires.from all
    c.offer-offer.ensures.window c.index-2.ensures c.track.ensures

pub returns-clause-answer : goal.returns-clause-answer
returns-clause-answer c =
    let IsKnown : Known → Type 0 = λ o. AreOthers c.args.session.now c.args._me c.args.entries.now o in
    let all = subst IsKnown (sym c.self.view_is) c.requires.others in
    let seen : length (cells_in c.self.inside.rule) ≡ players_of c.args.session.now = all.rule_is.dilated.seen.one_each in
    let second : c.index-2.result.now ≡ c.offer-offer.new.self
    = offered_read c.args.session.now c.args._me c.args.from c.from-at.result c.args.entries.now c.args.frame.now _ c.offer-offer.new.self c.index-2.result.now c.from-at.ensures c.requires.from all c.index-2.ensures in
    let track : c.track.result ≡ c.offer-offer.new.self.track = c.track.ensures ∙ ap (λ (x : Seen). x.track) second in
    let got = offered_there c.args.session.now c.args._me c.args.from c.from-at.result c.args.entries.now c.args.frame.now _ c.index_mut.result.now c.offer-offer.new.self c.offer-offer.result
    (view_of c.offer-offer.new.self) c.track.result.at c.resolved.new.self c.from-at.ensures c.requires.clean c.requires.from seen all c.index_mut.ensures.value c.offer-offer.ensures.answer c.offer-offer.ensures.frames c.offer-offer.ensures.window
    c.offer-offer.ensures.player c.offer-offer.ensures.closed refl (ap (λ (t : Track). t.at) track) c.resolved.ensures.rule c.resolved.ensures.cells in
    c.answer_of.ensures ∙ got.0

pub returns-clause-others : goal.returns-clause-others
returns-clause-others c =
    let IsKnown : Known → Type 0 = λ o. AreOthers c.args.session.now c.args._me c.args.entries.now o in
    let all = subst IsKnown (sym c.self.view_is) c.requires.others in
    let seen : length (cells_in c.self.inside.rule) ≡ players_of c.args.session.now = all.rule_is.dilated.seen.one_each in
    let first : c.index.result.now ≡ c.offer-offer.new.self
    = offered_read c.args.session.now c.args._me c.args.from c.from-at.result c.args.entries.now c.args.frame.now _ c.offer-offer.new.self c.index.result.now c.from-at.ensures c.requires.from all c.index.ensures in
    let second : c.index-2.result.now ≡ c.offer-offer.new.self
    = offered_read c.args.session.now c.args._me c.args.from c.from-at.result c.args.entries.now c.args.frame.now _ c.offer-offer.new.self c.index-2.result.now c.from-at.ensures c.requires.from all c.index-2.ensures in
    let view : c.view_of-view.result ≡ view_of c.offer-offer.new.self = c.view_of-view.ensures ∙ ap view_of first in
    let track : c.track.result ≡ c.offer-offer.new.self.track = c.track.ensures ∙ ap (λ (x : Seen). x.track) second in
    (offered_there c.args.session.now c.args._me c.args.from c.from-at.result c.args.entries.now c.args.frame.now _ c.index_mut.result.now c.offer-offer.new.self c.offer-offer.result
    c.view_of-view.result c.track.result.at c.resolved.new.self c.from-at.ensures c.requires.clean c.requires.from seen all c.index_mut.ensures.value c.offer-offer.ensures.answer c.offer-offer.ensures.frames
    c.offer-offer.ensures.window c.offer-offer.ensures.player c.offer-offer.ensures.closed view (ap (λ (t : Track). t.at) track) c.resolved.ensures.rule c.resolved.ensures.cells).1
