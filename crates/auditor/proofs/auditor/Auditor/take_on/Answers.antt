use Rattle.std.proofs.Common.{List, arith, subst, sym, take, ◌<◌}
use Rattle.definitions.specs.declared.logs.Entry.{Entry}
use Rattle.auditor.specs.Taking.{Takes}
use Rattle.auditor.proofs.auditor.Auditor.take_on.Goals as goal

pub returns-then-batch-room-clause-next : goal.returns-then-batch-room-clause-next
returns-then-batch-room-clause-next c = λ f is.
    let few = c.if-batch-room.true in
    let same = c.take_next.ensures.room in
    let all = c.in_ok-batch.ensures.all (subst (λ n. c.in_ok-batch.batch.count < n) same few) f is in
    record {
      feed = all.1;
      taken = subst (λ (es : List Entry). Takes c.args.self.now c.take_next.new.self c.args.log es) (sym all.0) c.in_ok-batch.ensures.taken;
    }

pub returns-clause-next : goal.returns-clause-next
returns-clause-next c = λ f is.
    let fits = c.in_ok-batch.ensures.fits in
    let same = c.take_next.ensures.room in
    let many = c.if-batch-room.false in
    let full = c.in_ok-batch.ensures.full (omega (arith, same, fits.0, many)) f is in (
      take c.in_ok-batch.batch.count c.take_next.new.room,
      full.0,
      full.1,
      full.2,
      c.in_ok-batch.ensures.taken,
    )
