use Rattle.std.proofs.Common.{◌∙◌}
use Rattle.definitions.specs.Held.{digest_of}
use Rattle.peer_window.proofs.Pairs.{digest_swap}
use Rattle.peer_window.proofs.clashes.has_digest_of.Goals as goal

pub returns-in-Some : goal.returns-in-Some
returns-in-Some c =
    c.same_digest-in-Some.ensures
    ∙ digest_swap (digest_of c.args.session.now c.in-Some.other.frame) (digest_of c.args.session.now c.args.held.now.frame) (digest_of c.args.session.now c.args.rival.now.frame) (c.requires.agree c.in-Some.other c.in-Some.is)
