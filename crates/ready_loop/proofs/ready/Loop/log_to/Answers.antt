use Rattle.peer_rules.specs.declared.phases.Phase.TheVariants.{Fresh, Logged, KeepFault}
use Rattle.std.proofs.Common.{◌≡◌}
use Rattle.ready_loop.proofs.Fits.{fit_from}
use Rattle.ready_loop.proofs.ready.Loop.log_to.Goals as goal

pub invariant_of-self : goal.invariant_of-self
invariant_of-self g c = fit_from Logged Fresh _ c.args.self.now c.self.inside.writer c.self.view_is c.requires.fresh (λ e. (let q : Fresh ≡ KeepFault = e in cc)) c.self.invariant
