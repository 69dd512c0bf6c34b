use Rattle.ready_loop.proofs.CallsIn.{no_fault}
use Rattle.ready_loop.proofs.Synced.{syncs_done, syncs_failed, syncs_none, sync_lt}
use Rattle.ready_loop.proofs.ready.Loop.sync.Goals as goal

pub returns-then-self : goal.returns-then-self
returns-then-self g c = syncs_none _ _ c.args.self.now c.self.view_is c.requires.ready c.if-self.true

pub sync_kept-requires : goal.sync_kept-requires
sync_kept-requires g c = record { whole = no_fault c.args.self.now.phase c.requires.ready.idle.running }

pub returns-then-not-sync_kept : goal.returns-then-not-sync_kept
returns-then-not-sync_kept g c =
    syncs_failed c.sync_kept.result _ _ c.args.self.now c.sync_kept.new.self c.requires.ready (sync_lt _ c.args.self.now c.self.inside.writer c.self.view_is c.self.invariant c.if-self.false) c.sync_kept.ensures.told c.sync_kept.ensures.after c.if-not-sync_kept.true

pub returns : goal.returns
returns g c =
    syncs_done c.sync_kept.result _ _ c.args.self.now c.sync_kept.new.self c.requires.ready (sync_lt _ c.args.self.now c.self.inside.writer c.self.view_is c.self.invariant c.if-self.false) c.sync_kept.ensures.told c.sync_kept.ensures.after c.if-not-sync_kept.false
