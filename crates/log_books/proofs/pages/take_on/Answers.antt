use Rattle.std.proofs.Common.{List, ap, arith, subst, sym, take, ◌<◌}
use Rattle.definitions.specs.declared.logs.Entry.{Entry}
use Rattle.auditor.specs.Taking.{Takes}
use Rattle.log_books.specs.Heeding.{Comes}
use Rattle.log_books.proofs.Heeding.{comes_one, heed_as}
use Rattle.log_books.proofs.pages.take_on.Goals as goal

pub returns-then-batch-room-clause-next : goal.returns-then-batch-room-clause-next
returns-then-batch-room-clause-next c = λ f is.
    let few = c.if-batch-room.true in
    let same = c.take_next.ensures.room in
    let all = c.in_ok-batch.ensures.all (subst (λ n. c.in_ok-batch.batch.count < n) same few) f is in
    record {
      feed = all.1;
      came = subst (λ (es : List Entry). Comes c.args.auditor.now.session c.args.auditor.now c.take_next.new.self c.args.agreed.now c.heed.new.self c.args.player es) (sym all.0)
          (comes_one c.args.auditor.now.session c.args.player c.args.auditor.now c.take_next.new.self c.args.agreed.now c.heed.new.self (take c.in_ok-batch.batch.count c.take_next.new.room)
          (subst (λ n. Takes c.args.auditor.now c.take_next.new.self n (take c.in_ok-batch.batch.count c.take_next.new.room)) c.from.ensures c.in_ok-batch.ensures.taken)
          (heed_as c.args.auditor.now.session c.args.agreed.now.game c.take_next.new.self _ _ c.args.agreed.now c.heed.new.self c.args.player (take c.in_ok-batch.batch.count c.take_next.new.room) c.requires.game c.got.ensures c.made.ensures c.heed.ensures.heeded));
    }

pub returns-clause-next : goal.returns-clause-next
returns-clause-next c = λ f is.
    let fits = c.in_ok-batch.ensures.fits in
    let same = c.take_next.ensures.room in
    let many = c.if-batch-room.false in
    let full = c.in_ok-batch.ensures.full (omega (arith, same, fits.0, many)) f is in (
      take c.in_ok-batch.batch.count c.take_next.new.room,
      full.0,
      full.1,
      full.2,
      comes_one c.args.auditor.now.session c.args.player c.args.auditor.now c.take_next.new.self c.args.agreed.now c.heed.new.self (take c.in_ok-batch.batch.count c.take_next.new.room)
          (subst (λ n. Takes c.args.auditor.now c.take_next.new.self n (take c.in_ok-batch.batch.count c.take_next.new.room)) c.from.ensures c.in_ok-batch.ensures.taken)
          (heed_as c.args.auditor.now.session c.args.agreed.now.game c.take_next.new.self _ _ c.args.agreed.now c.heed.new.self c.args.player (take c.in_ok-batch.batch.count c.take_next.new.room) c.requires.game c.got.ensures c.made.ensures c.heed.ensures.heeded),
    )
