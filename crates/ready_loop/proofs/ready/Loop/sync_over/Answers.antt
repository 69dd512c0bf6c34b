use Rattle.ready_loop.proofs.Synced.{sync_lt}
use Rattle.ready_loop.proofs.Began.{syncs_over, syncs_over_none, taking_whole}
use Rattle.ready_loop.proofs.ready.Loop.sync_over.Goals as goal

pub returns-then-self : goal.returns-then-self
returns-then-self g c = syncs_over_none _ _ c.args.self.now c.self.view_is c.requires.taking c.if-self.true

pub sync_kept-requires : goal.sync_kept-requires
sync_kept-requires g c = record { whole = taking_whole c.args.self.now.phase c.requires.taking.logged }

pub returns : goal.returns
returns g c = syncs_over c.sync_kept.result _ _ c.args.self.now c.sync_kept.new.self c.requires.taking c.requires.all (sync_lt _ c.args.self.now c.self.inside.writer c.self.view_is c.self.invariant c.if-self.false) c.sync_kept.ensures.told c.sync_kept.ensures.after
