use Rattle.std.proofs.Common.{ap, append-nil, subst, sym, List, ◌++◌, ◌∙◌, ◌≡◌, Option}
use Rattle.std.specs.Prelude.{option_to_list}
use Rattle.definitions.specs.declared.world.Move.{Move}
use Rattle.auditor.specs.Audits.{AuditState, crossed_logs}
use Rattle.auditor.specs.Reading.{IsReadable}
use Rattle.auditor.proofs.Viewed.{got_read, made_read}
use Rattle.auditor.proofs.auditor.Auditor.put_agreed.Goals as goal

pub returns-in_ok-push-clause-put : goal.returns-in_ok-push-clause-put
returns-in_ok-push-clause-put c = λ logs w up.
    let i = c.self.inside in
    let seen : AuditState = record { session = i.session; index = i.index; made = i.made; counts = i.counts; owners = i.owners } in
    let v : IsReadable seen logs = subst (λ (a : AuditState). IsReadable a logs) (sym c.self.view_is) w in
    let got = got_read c.args.self.now seen c.self.view_is c.args.player c.args.turn logs c.args.readings.now _ (λ s. c.in_ok-read_on.ensures.read logs v.audit.index s) up in
    let made = made_read c.args.self.now seen c.self.view_is c.args.player c.args.turn logs c.args.readings.now _ (λ s. c.in_ok-read_on-2.ensures.read (crossed_logs logs) v.audit.made s) up in
    let mv = c.agreed_move.ensures logs w.audit.many w.owned got made in (
      record { got = got.after; made = made.after },
      c.in_ok-push.ensures.items ∙ ap (λ (o : Option Move). c.args.out.now.items ++ option_to_list o) (sym c.in-Some.is ∙ mv),
    )

pub returns-in_default-clause-put : goal.returns-in_default-clause-put
returns-in_default-clause-put c = λ logs w up.
    let i = c.self.inside in
    let seen : AuditState = record { session = i.session; index = i.index; made = i.made; counts = i.counts; owners = i.owners } in
    let v : IsReadable seen logs = subst (λ (a : AuditState). IsReadable a logs) (sym c.self.view_is) w in
    let got = got_read c.args.self.now seen c.self.view_is c.args.player c.args.turn logs c.args.readings.now _ (λ s. c.in_ok-read_on.ensures.read logs v.audit.index s) up in
    let made = made_read c.args.self.now seen c.self.view_is c.args.player c.args.turn logs c.args.readings.now _ (λ s. c.in_ok-read_on-2.ensures.read (crossed_logs logs) v.audit.made s) up in
    let mv = c.agreed_move.ensures logs w.audit.many w.owned got made in (
      record { got = got.after; made = made.after },
      sym (append-nil c.args.out.now.items) ∙ ap (λ (o : Option Move). c.args.out.now.items ++ option_to_list o) (sym c.in_default.is ∙ mv),
    )
