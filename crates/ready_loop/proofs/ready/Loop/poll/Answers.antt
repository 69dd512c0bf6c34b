use Rattle.std.proofs.Common.{◌≡◌, sym, subst}
use Rattle.peer_rules.specs.declared.phases.Phase.TheVariants.{Running, PollFault, KeepFault}
use Rattle.socket_list.specs.Opening.{AreNewTo}
use Rattle.ready_loop.proofs.Fits.{fit_from}
use Rattle.ready_loop.proofs.Polled.{licensed_here, poll_shut, poll_new, polled_done, polled_failed, polled_fits}
use Rattle.ready_loop.proofs.ready.Loop.poll.Goals as goal

pub polled-requires-clause-shut : goal.polled-requires-clause-shut
polled-requires-clause-shut g c = poll_shut _ _ (licensed_here _ _ c.args.self.now c.self.view_is c.requires.licensed)

pub polled-requires-clause-few : goal.polled-requires-clause-few
polled-requires-clause-few g c = c.as_slice.ensures.few

pub polled-requires-clause-new : goal.polled-requires-clause-new
polled-requires-clause-new g c =
    subst (AreNewTo c.self.inside.table.lines) (sym c.as_slice.ensures.items) (poll_new _ _ c.poll.new.ready (licensed_here _ _ c.args.self.now c.self.view_is c.requires.licensed) c.in-Done.ensures.fresh)

pub invariant_of-self : goal.invariant_of-self
invariant_of-self g c = polled_fits _ c.self.inside.writer c.polled.new.self c.as_slice.result.now c.polled.ensures c.self.invariant

pub invariant_of-self-in-Failed : goal.invariant_of-self-in-Failed
invariant_of-self-in-Failed g c =
    fit_from PollFault Running _ c.args.self.now c.self.inside.writer c.self.view_is c.requires.licensed.whole.idle.running (λ e. (let q : Running ≡ KeepFault = e in cc)) c.self.invariant

pub returns-in-Done : goal.returns-in-Done
returns-in-Done g c =
    polled_done _ _ _ c.args.self.now c.polled.new.self c.poll.new.ready c.as_slice.result.now c.self.view_is c.requires.licensed c.in-Done.ensures.fresh c.in-Done.ensures.after c.as_slice.ensures.items c.polled.ensures

pub returns-in-Failed : goal.returns-in-Failed
returns-in-Failed g c = polled_failed _ _ _ c.args.self.now c.poll.new.ready c.self.view_is c.requires.licensed c.in-Failed.ensures.fresh c.in-Failed.ensures.after
