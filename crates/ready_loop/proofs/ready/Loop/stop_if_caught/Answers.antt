use Rattle.std.proofs.lemmas.Result.{err_from_is_err_and}
use Rattle.ready_loop.proofs.Stopped.{catches_none, catches_unsynced, catches_found}
use Rattle.ready_loop.proofs.ready.Loop.stop_if_caught.Goals as goal

pub returns : goal.returns
returns g c = catches_none _ c.args.self.now c.finding.result c.requires.ready c.finding.ensures.clean c.in_default.is

pub sync-requires : goal.sync-requires
sync-requires g c = record { ready = c.requires.ready }

pub returns-in_err-sync : goal.returns-in_err-sync
returns-in_err-sync g c =
    let p = err_from_is_err_and c.from_residual.result c.from_residual.ensures.1 in
    rw (p.1, p.2)
    (catches_unsynced c.in_err-sync.field-0.0 _ _ c.args.self.now c.sync.new.self c.requires.ready c.in_err-sync.ensures)

pub returns-in-Some : goal.returns-in-Some
returns-in-Some g c = catches_found _ _ _ c.args.self.now c.sync.new.self c.finding.result c.in-Some.finding c.requires.ready c.in_ok-sync.ensures c.finding.ensures.first c.in-Some.is
