use Rattle.std.proofs.Common.{◌≡◌, List, length, subst, sym}
use Rattle.definitions.specs.declared.logs.Entry.{Entry}
use Rattle.frame_index.specs.Plain.{IsClear}
use Rattle.auditor.specs.Agreed.{AreOwned, ArePlays}
use Rattle.auditor.specs.Audits.{AuditState, crossed_logs}
use Rattle.auditor.specs.Reading.{IsReadable}
use Rattle.auditor.proofs.Joining.{plays_are}
use Rattle.auditor.proofs.auditor.Auditor.plays.Goals as goal

pub returns-clause-plays : goal.returns-clause-plays
returns-clause-plays c = λ logs w.
    let game = c.self.inside.session in
    let seen : AuditState = record { session = game; index = c.self.inside.index; made = c.self.inside.made; counts = c.self.inside.counts; owners = c.self.inside.owners } in
    let v : IsReadable seen logs = subst (λ (a : AuditState). IsReadable a logs) (sym c.self.view_is) w in
    subst (λ (a : AuditState). ArePlays a.session c.args.self.now.owners logs c.args.player c.common_moves.new.out.items c.common_moves-2.new.out.items) c.self.view_is
    (plays_are game c.args.self.now.owners logs c.args.player c.own_logs-own.result c.other_logs-others.result c.common_moves.new.out.items c.common_moves-2.new.out.items w.audit.many
    (subst (λ (a : AuditState). AreOwned a.session c.args.self.now.owners logs) (sym c.self.view_is) w.owned)
    c.own_logs-own.ensures c.other_logs-others.ensures (c.in_ok-common_moves.ensures.moves c.if-not-branch.false logs v.audit.index)
    (c.in_ok-common_moves-2.ensures.moves c.if-not-branch-2.false (crossed_logs logs) v.audit.made))

pub returns-clause-clear : goal.returns-clause-clear
returns-clause-clear c =
    subst (λ (a : AuditState). length c.common_moves.new.out.items ≡ a.session.turns → IsClear a.session a.index c.args.player) c.self.view_is (c.in_ok-common_moves.ensures.clear c.if-not-branch.false)
