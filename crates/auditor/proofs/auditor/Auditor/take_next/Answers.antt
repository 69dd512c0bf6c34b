use Rattle.std.proofs.Common.{ap, drop, subst}
use Rattle.definitions.specs.World.{Game}
use Rattle.auditor.specs.Audits.{AuditState}
use Rattle.auditor.specs.Taking.{TakesSome}
use Rattle.auditor.proofs.Fed.{front_of_read, on_err_always}
use Rattle.auditor.proofs.auditor.Auditor.take_next.Goals as goal

pub returns-in_err-take_batch-clause-some : goal.returns-in_err-take_batch-clause-some
returns-in_err-take_batch-clause-some c = on_err_always c.from_residual.result (λ f is.
    subst (λ (g : Game). TakesSome g c.args.self.now c.take_batch.new.self c.args.log (drop c.args.at c.args.piece.now) f) (ap (λ (a : AuditState). a.session) c.self.view_is)
    (front_of_read c.self.inside.session c.args.self.now c.note_owner.new.self c.take_batch.new.self c.args.log c.args.feed.now c.read_batch-batch.new.feed f (drop c.args.at c.args.piece.now) _ c.read_batch-batch.result.count _ _ is
    c.read_batch-batch.ensures.fits.1 c.read_batch-batch.ensures.full c.read_batch-batch.ensures.all c.note_owner.ensures.stands c.in_err-take_batch.ensures.some))
