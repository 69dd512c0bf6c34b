use Rattle.datagram_loop.proofs.Fits.{new_fits, new_is}
use Rattle.datagram_loop.proofs.looping.PostLoop.new.Goals as goal

pub invariant_of-result : goal.invariant_of-result
invariant_of-result c =
    new_fits c.args.peer c.args.roster c.in_ok-partners.partners.items c.links.result.now c.new-writer.result c.session.result.now c.me.result c.requires.links c.links.ensures c.in_ok-partners.ensures c.session.ensures c.me.ensures c.new-writer.ensures

pub returns : goal.returns
returns c = new_is c.args.peer c.args.roster c.in_ok-partners.partners.items c.links.result.now c.links.ensures c.in_ok-partners.ensures
