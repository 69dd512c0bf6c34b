use Rattle.std.proofs.Common.{◌≡◌, List, Option, subst, ℕ}
use Rattle.definitions.specs.declared.logs.Entry.{Entry}
use Rattle.definitions.specs.World.{Game}
use Rattle.auditor.specs.Audits.{AuditState, IsAuditOf, owners_with}
use Rattle.auditor.proofs.Viewed.{names_one}
use Rattle.auditor.proofs.auditor.Auditor.note_owner.Goals as goal

pub returns-clause-stands : goal.returns-clause-stands
returns-clause-stands c =
    let w = c.self.inside in
    let seen : List (Option ℕ) → AuditState = λ owners. record { session = w.session; index = w.index; made = w.made; counts = w.counts; owners = owners } in
    subst (λ (a : AuditState). (game : Game) (logs : List (List Entry)) → IsAuditOf game logs a → IsAuditOf game logs (seen c.name_owner.new.owners)) c.self.view_is
    (λ game logs is. record { session = is.session; many = is.many; index = is.index; made = is.made; counted = is.counted })

pub returns-clause-count : goal.returns-clause-count
returns-clause-count c =
    let w = c.self.inside in
    let seen : List (Option ℕ) → AuditState = λ owners. record { session = w.session; index = w.index; made = w.made; counts = w.counts; owners = owners } in
    let after : seen c.name_owner.new.owners ≡ record { session = c.args.self.now.session; index = c.args.self.now.index; made = c.args.self.now.made; counts = c.args.self.now.counts; owners = owners_with c.args.self.now.owners c.args.log c.args.owner } =
    subst (λ (a : AuditState). seen c.name_owner.new.owners ≡ record { session = a.session; index = a.index; made = a.made; counts = a.counts; owners = owners_with a.owners c.args.log c.args.owner }) c.self.view_is
    (λ j. seen (c.name_owner.ensures j)) in
    let one = names_one c.args.self.now (seen c.name_owner.new.owners) c.args.log c.args.owner after in
    one.counts c.args.log

pub returns-clause-session : goal.returns-clause-session
returns-clause-session c =
    let w = c.self.inside in
    let seen : List (Option ℕ) → AuditState = λ owners. record { session = w.session; index = w.index; made = w.made; counts = w.counts; owners = owners } in
    let after : seen c.name_owner.new.owners ≡ record { session = c.args.self.now.session; index = c.args.self.now.index; made = c.args.self.now.made; counts = c.args.self.now.counts; owners = owners_with c.args.self.now.owners c.args.log c.args.owner } =
    subst (λ (a : AuditState). seen c.name_owner.new.owners ≡ record { session = a.session; index = a.index; made = a.made; counts = a.counts; owners = owners_with a.owners c.args.log c.args.owner }) c.self.view_is
    (λ j. seen (c.name_owner.ensures j)) in
    let one = names_one c.args.self.now (seen c.name_owner.new.owners) c.args.log c.args.owner after in
    one.session

pub returns-clause-owner : goal.returns-clause-owner
returns-clause-owner c =
    let w = c.self.inside in
    let seen : List (Option ℕ) → AuditState = λ owners. record { session = w.session; index = w.index; made = w.made; counts = w.counts; owners = owners } in
    let after : seen c.name_owner.new.owners ≡ record { session = c.args.self.now.session; index = c.args.self.now.index; made = c.args.self.now.made; counts = c.args.self.now.counts; owners = owners_with c.args.self.now.owners c.args.log c.args.owner } =
    subst (λ (a : AuditState). seen c.name_owner.new.owners ≡ record { session = a.session; index = a.index; made = a.made; counts = a.counts; owners = owners_with a.owners c.args.log c.args.owner }) c.self.view_is
    (λ j. seen (c.name_owner.ensures j)) in
    let one = names_one c.args.self.now (seen c.name_owner.new.owners) c.args.log c.args.owner after in
    one.owner_is

pub returns-clause-others : goal.returns-clause-others
returns-clause-others c =
    let w = c.self.inside in
    let seen : List (Option ℕ) → AuditState = λ owners. record { session = w.session; index = w.index; made = w.made; counts = w.counts; owners = owners } in
    let after : seen c.name_owner.new.owners ≡ record { session = c.args.self.now.session; index = c.args.self.now.index; made = c.args.self.now.made; counts = c.args.self.now.counts; owners = owners_with c.args.self.now.owners c.args.log c.args.owner } =
    subst (λ (a : AuditState). seen c.name_owner.new.owners ≡ record { session = a.session; index = a.index; made = a.made; counts = a.counts; owners = owners_with a.owners c.args.log c.args.owner }) c.self.view_is
    (λ j. seen (c.name_owner.ensures j)) in
    let one = names_one c.args.self.now (seen c.name_owner.new.owners) c.args.log c.args.owner after in
    λ i ne. (one.counts i, one.others i ne)
