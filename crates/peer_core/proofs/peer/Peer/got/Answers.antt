use Rattle.std.proofs.Common.{◌≡◌, ◌∙◌, List, ap, false, rules, subst, sym, true}
use Rattle.std.specs.Option.{is_some}
use Rattle.definitions.specs.declared.logs.Entry.{Entry}
use Rattle.definitions.specs.Findings.{is_clean}
use Rattle.definitions.specs.Answers.{is_of_another}
use Rattle.peer_core.specs.Views.{PeerState}
use Rattle.peer_core.proofs.Answering.{closed_answer, foreign_answer, refused_log}
use Rattle.peer_core.proofs.Peers.{none_clean, some_dirty}
use Rattle.peer_core.proofs.peer.Peer.got.Goals as goal

pub returns-then-is_some-clause-answer : goal.returns-then-is_some-clause-answer
returns-then-is_some-clause-answer c =
    let some : c.is_some.result ≡ is_some c.self.inside.found = search rules in
    let Is : PeerState → Type 0 = λ v. is_clean v.game v.entries ≡ false in
    let dirty = subst Is c.self.view_is (some_dirty c.self.inside.session c.self.inside.entries.items c.self.inside.found c.self.invariant.0.found_is (sym some ∙ c.if-is_some.true)) in
    closed_answer c.args.self.now.game c.args.self.now.me c.args.self.now.entries c.args.from c.args.frame.now dirty

pub returns-then-is_some-clause-log : goal.returns-then-is_some-clause-log
returns-then-is_some-clause-log c =
    let some : c.is_some.result ≡ is_some c.self.inside.found = search rules in
    let Is : PeerState → Type 0 = λ v. is_clean v.game v.entries ≡ false in
    let dirty = subst Is c.self.view_is (some_dirty c.self.inside.session c.self.inside.entries.items c.self.inside.found c.self.invariant.0.found_is (sym some ∙ c.if-is_some.true)) in
    let with_log : List Entry → PeerState = λ h. record { game = c.args.self.now.game; me = c.args.self.now.me; entries = h } in
    ap with_log (refused_log c.args.self.now.game c.args.self.now.me c.args.self.now.entries c.args.from c.args.frame.now dirty)

pub returns-then-not-is_of_another-clause-answer : goal.returns-then-not-is_of_another-clause-answer
returns-then-not-is_of_another-clause-answer c =
    let some : c.is_some.result ≡ is_some c.self.inside.found = search rules in
    let Is : PeerState → Type 0 = λ v. is_clean v.game v.entries ≡ true in
    let clean = subst Is c.self.view_is (none_clean c.self.inside.session c.self.inside.entries.items c.self.inside.found c.self.invariant.0.found_is (sym some ∙ c.if-is_some.false)) in
    let From : PeerState → Type 0 = λ v. is_of_another v.game v.me c.args.from c.args.frame.now ≡ false in
    let foreign = subst From c.self.view_is (sym c.is_of_another.ensures ∙ c.if-not-is_of_another.true) in
    foreign_answer c.args.self.now.game c.args.self.now.me c.args.self.now.entries c.args.from c.args.frame.now clean foreign

pub hear-requires-clause-clean : goal.hear-requires-clause-clean
hear-requires-clause-clean c =
    let some : c.is_some.result ≡ is_some c.self.inside.found = search rules in
    let Is : PeerState → Type 0 = λ v. is_clean v.game v.entries ≡ true in
    subst Is c.self.view_is (none_clean c.self.inside.session c.self.inside.entries.items c.self.inside.found c.self.invariant.0.found_is (sym some ∙ c.if-is_some.false))
