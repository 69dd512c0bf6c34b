use Rattle.std.proofs.Common.{◌≡◌, List, Option, subst, ℕ}
use Rattle.std.specs.Prelude.{Some}
use Rattle.definitions.specs.declared.logs.Entry.{Entry}
use Rattle.definitions.specs.World.{Game}
use Rattle.auditor.specs.Audits.{AuditState, IsAuditOf, owners_with}
use Rattle.auditor.proofs.auditor.Auditor.owner.Goals as goal

pub returns-clause-after : goal.returns-clause-after
returns-clause-after c =
    let w = c.self.inside in
    let seen : List (Option ℕ) → AuditState = λ owners. record { session = w.session; index = w.index; made = w.made; counts = w.counts; owners = owners } in
    subst (λ (a : AuditState). seen c.name_owner.new.owners ≡ record { session = a.session; index = a.index; made = a.made; counts = a.counts; owners = owners_with a.owners c.args.log (Some c.args.owner) }) c.self.view_is
    (λ j. seen (c.name_owner.ensures j))

pub returns-clause-stands : goal.returns-clause-stands
returns-clause-stands c =
    let w = c.self.inside in
    let seen : List (Option ℕ) → AuditState = λ owners. record { session = w.session; index = w.index; made = w.made; counts = w.counts; owners = owners } in
    subst (λ (a : AuditState). (game : Game) (logs : List (List Entry)) → IsAuditOf game logs a → IsAuditOf game logs (seen c.name_owner.new.owners)) c.self.view_is
    (λ game logs is. record { session = is.session; many = is.many; index = is.index; made = is.made; counted = is.counted })
