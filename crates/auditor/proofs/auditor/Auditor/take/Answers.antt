use Rattle.std.proofs.Common.{◌≡◌, List, refl, subst, sym, ℕ}
use Rattle.std.specs.Prelude.{Ok, Err, slice_index}
use Rattle.definitions.specs.declared.logs.Entry.{Entry}
use Rattle.definitions.specs.World.{Game}
use Rattle.frame_index.specs.Appended.{with_entry}
use Rattle.auditor.specs.Audits.{AuditState, IsAuditOf}
use Rattle.auditor.proofs.Viewed.{after_entry, taken_stands, untaken_stands}
use Rattle.auditor.proofs.auditor.Auditor.take.Goals as goal

pub returns-in-Ok-clause-after : goal.returns-in-Ok-clause-after
returns-in-Ok-clause-after c =
    let w = c.self.inside in
    let seen : List ℕ → AuditState = λ counts. record { session = w.session; index = c.take_entry.new.index; made = c.take_entry.new.made; counts = counts; owners = w.owners } in
    subst (λ (a : AuditState). seen c.count_one.new.counts ≡ after_entry (Ok tt) a c.args.log c.take_entry.new.index c.take_entry.new.made) c.self.view_is
    (λ j. seen (c.count_one.ensures j))

pub returns-in-Ok-clause-stands : goal.returns-in-Ok-clause-stands
returns-in-Ok-clause-stands c =
    let w = c.self.inside in
    let index = c.take_entry.new.index in
    let made = c.take_entry.new.made in
    let seen : List ℕ → AuditState = λ counts. record { session = w.session; index = index; made = made; counts = counts; owners = w.owners } in
    let old : AuditState = record { session = w.session; index = w.index; made = w.made; counts = w.counts; owners = w.owners } in
    subst (λ (a : AuditState). (game : Game) (logs : List (List Entry)) → IsAuditOf game logs a → IsAuditOf game (with_entry logs c.args.log c.args.entry.now) (seen c.count_one.new.counts)) c.self.view_is
    (λ game logs is. subst (λ (counts : List ℕ). IsAuditOf game (with_entry logs c.args.log c.args.entry.now) (seen counts)) (sym c.count_one.ensures)
    (taken_stands old index made c.args.log (slice_index w.counts c.args.log) c.args.entry.now tt c.requires.log refl c.in-Ok.ensures.got c.in-Ok.ensures.made game logs is))

pub returns-in-Err-clause-after : goal.returns-in-Err-clause-after
returns-in-Err-clause-after c =
    let w = c.self.inside in
    let index = c.take_entry.new.index in
    let made = c.take_entry.new.made in
    let new : AuditState = record { session = w.session; index = index; made = made; counts = w.counts; owners = w.owners } in
    subst (λ (a : AuditState). new ≡ after_entry (Err c.in-Err.wanting) a c.args.log index made) c.self.view_is refl

pub returns-in-Err-clause-stands : goal.returns-in-Err-clause-stands
returns-in-Err-clause-stands c =
    let w = c.self.inside in
    let index = c.take_entry.new.index in
    let made = c.take_entry.new.made in
    let old : AuditState = record { session = w.session; index = w.index; made = w.made; counts = w.counts; owners = w.owners } in
    let new : AuditState = record { session = w.session; index = index; made = made; counts = w.counts; owners = w.owners } in
    subst (λ (a : AuditState). (game : Game) (logs : List (List Entry)) → IsAuditOf game logs a → IsAuditOf game logs new) c.self.view_is
    (untaken_stands old index made c.args.log c.in-Err.wanting c.in-Err.ensures.got_err c.in-Err.ensures.made_err)
