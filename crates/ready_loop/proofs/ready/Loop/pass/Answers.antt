use Rattle.std.proofs.lemmas.Result.{err_from_is_err_and}
use Rattle.ready_loop.proofs.Passing.{pass_unread, pass_playing, pass_unplayed, pass_ready, pass_unsynced, pass_serving, pass_serves}
use Rattle.ready_loop.proofs.ready.Loop.pass.Goals as goal

pub returns-in_err-read_all : goal.returns-in_err-read_all
returns-in_err-read_all g c =
    let p = err_from_is_err_and c.from_residual.result c.from_residual.ensures.1 in
    rw (p.1, p.2)
    (pass_unread c.in_err-read_all.field-0.0 _ _ _ c.args.self.now c.read_all.new.self c.in_err-read_all.ensures)

pub choose_all-requires : goal.choose_all-requires
choose_all-requires g c = record { playing = pass_playing _ _ _ c.args.self.now c.read_all.new.self c.in_ok-read_all.ensures }

pub returns-in_err-choose_all : goal.returns-in_err-choose_all
returns-in_err-choose_all g c =
    let p = err_from_is_err_and c.from_residual-in_err-choose_all.result c.from_residual-in_err-choose_all.ensures.1 in
    rw (p.1, p.2)
    (pass_unplayed _ c.in_err-choose_all.field-0.0 _ _ _ _ _ c.args.self.now c.read_all.new.self c.choose_all.new.self c.in_ok-read_all.ensures c.in_err-choose_all.ensures)

pub sync-requires : goal.sync-requires
sync-requires g c = record { ready = pass_ready _ _ _ _ _ c.read_all.new.self c.choose_all.new.self c.in_ok-choose_all.ensures }

pub returns-in_err-sync : goal.returns-in_err-sync
returns-in_err-sync g c =
    let p = err_from_is_err_and c.from_residual-in_err-sync.result c.from_residual-in_err-sync.ensures.1 in
    rw (p.1, p.2)
    (pass_unsynced _ _ c.in_err-sync.field-0.0 _ _ _ _ _ _ c.args.self.now c.read_all.new.self c.choose_all.new.self c.sync.new.self c.in_ok-read_all.ensures c.in_ok-choose_all.ensures c.in_err-sync.ensures)

pub serve-requires-clause-serving : goal.serve-requires-clause-serving
serve-requires-clause-serving g c = (pass_serving _ _ _ _ _ _ _ _ _ c.args.self.now c.read_all.new.self c.choose_all.new.self c.sync.new.self c.in_ok-read_all.ensures c.in_ok-choose_all.ensures c.in_ok-sync.ensures).0

pub serve-requires-clause-out : goal.serve-requires-clause-out
serve-requires-clause-out g c = (pass_serving _ _ _ _ _ _ _ _ _ c.args.self.now c.read_all.new.self c.choose_all.new.self c.sync.new.self c.in_ok-read_all.ensures c.in_ok-choose_all.ensures c.in_ok-sync.ensures).1

pub returns : goal.returns
returns g c =
    pass_serves _ _ _ c.serve.result _ _ _ _ _ _ _ c.args.self.now c.read_all.new.self c.choose_all.new.self c.sync.new.self c.serve.new.self c.in_ok-read_all.ensures c.in_ok-choose_all.ensures c.in_ok-sync.ensures c.serve.ensures
