use Rattle.datagram_loop.proofs.Kept.{new_unkept, new_synced, new_stored, no_fault, sync_running}
use Rattle.datagram_loop.proofs.looping.PostLoop.keep_new.Goals as goal

pub returns-then-not-keep_all : goal.returns-then-not-keep_all
returns-then-not-keep_all g c = new_unkept c.keep_all.result _ _ c.args.self.now c.keep_all.new.self c.keep_all.ensures c.if-not-keep_all.true

pub returns-then-not-has_unsynced : goal.returns-then-not-has_unsynced
returns-then-not-has_unsynced g c =
    new_synced c.keep_all.result c.has_unsynced.result _ _ c.args.self.now c.keep_all.new.self c.keep_all.ensures c.if-not-keep_all.false c.has_unsynced.ensures.exact c.if-not-has_unsynced.true c.has_unsynced.ensures.few

pub sync_kept-requires : goal.sync_kept-requires
sync_kept-requires g c = record { whole = no_fault c.keep_all.new.self.phase (sync_running c.keep_all.result _ _ c.args.self.now c.keep_all.new.self c.keep_all.ensures c.if-not-keep_all.false) }

pub returns : goal.returns
returns g c =
    new_stored c.keep_all.result c.has_unsynced.result c.sync_kept.result _ _ _ c.args.self.now c.keep_all.new.self c.sync_kept.new.self c.keep_all.ensures c.if-not-keep_all.false c.has_unsynced.ensures.exact c.if-not-has_unsynced.false c.requires.made
    c.sync_kept.ensures.told c.sync_kept.ensures.after
