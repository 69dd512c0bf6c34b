use Rattle.std.proofs.Common.{rules, ◌≡◌, pos}
use Rattle.old_log.proofs.Asking.{are_bytes}
use Rattle.lethwyrn_c.proofs.Kept.{gone_on}
use Rattle.lethwyrn_c.proofs.exports.resume.Goals as goal

pub returns-then-code-eq-OK-clause-on : goal.returns-then-code-eq-OK-clause-on
returns-then-code-eq-OK-clause-on c =
    let made : c.seat-code.result ≡ pos 0 = search rules in
    let exact = c.in-Ok.ensures.exact in
    λ ok. gone_on c.args.session.now c.args.player c.args.log.now c.in-Ok.resumed.peer c.seat-code.new.handle.value (are_bytes c.args.log.now c.type_inv.log) (c.seat-code.ensures.made made) exact.peer_is
    c.in-Ok.ensures.honest exact.fit
