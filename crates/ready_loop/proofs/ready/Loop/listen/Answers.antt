use Rattle.peer_rules.specs.declared.phases.Phase.TheVariants.{Logged, Running, PollFault, KeepFault}
use Rattle.std.proofs.Common.{◌≡◌}
use Rattle.ready_loop.proofs.Fits.{fit_from}
use Rattle.ready_loop.proofs.ready.Loop.listen.Goals as goal

pub invariant_of-self : goal.invariant_of-self
invariant_of-self g c = fit_from Running Logged _ c.args.self.now c.self.inside.writer c.self.view_is c.requires.logged (λ e. (let q : Logged ≡ KeepFault = e in cc)) c.self.invariant

pub invariant_of-self-in-Failed : goal.invariant_of-self-in-Failed
invariant_of-self-in-Failed g c = fit_from PollFault Logged _ c.args.self.now c.self.inside.writer c.self.view_is c.requires.logged (λ e. (let q : Logged ≡ KeepFault = e in cc)) c.self.invariant
