use Rattle.std.proofs.lemmas.Result.{err_from_is_err_and}
use Rattle.accuser.proofs.Taken.{all_taken, bytes_fault}
use Rattle.accuser.proofs.taker.take_bytes.Goals as goal

pub returns-in_err-take_front-clause-bad : goal.returns-in_err-take_front-clause-bad
returns-in_err-take_front-clause-bad c =
    let p = err_from_is_err_and c.from_residual.result c.from_residual.ensures.1 in
    rw (p.1, p.2) (bytes_fault c.args.session.now c.args.roots.now c.args.file c.args.bytes.now c.in_err-take_front.field-0.0 c.in_err-take_front.ensures.bad)

pub returns-clause-ok : goal.returns-clause-ok
returns-clause-ok c = all_taken c.args.session.now c.args.roots.now c.args.file c.args.bytes.now c.args.taker.now c.take_front.new.taker c.in_ok-take_front.field-0 c.in_ok-take_front.ensures.ok
