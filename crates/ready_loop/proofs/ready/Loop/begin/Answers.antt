use Rattle.ready_loop.proofs.Began.{begins_unlogged, takes_first, logged_so, begins_unkept, over_kept, begins_unsynced, over_synced, begins_ready, begins_poll_fault}
use Rattle.ready_loop.proofs.ready.Loop.begin.Goals as goal

pub returns-then-not-log_to : goal.returns-then-not-log_to
returns-then-not-log_to g c = begins_unlogged c.log_to.result _ _ _ c.args.self.now c.log_to.new.self c.requires.new c.requires.first c.log_to.ensures.told c.log_to.ensures.after c.if-not-log_to.true

pub keep_over-requires : goal.keep_over-requires
keep_over-requires g c = record { taking = takes_first c.log_to.result _ _ _ c.args.self.now c.log_to.new.self c.requires.new c.requires.first c.log_to.ensures.told c.log_to.ensures.after c.if-not-log_to.false }

pub returns-then-not-keep_over : goal.returns-then-not-keep_over
returns-then-not-keep_over g c =
    begins_unkept c.keep_over.result _ _ _ c.args.self.now c.log_to.new.self c.keep_over.new.self
    (logged_so c.log_to.result c.keep_over.result c.args.name.now _ _ _ c.args.self.now c.log_to.new.self c.keep_over.new.self c.requires.first c.log_to.ensures.told c.log_to.ensures.after c.if-not-log_to.false c.keep_over.ensures)
    c.keep_over.ensures c.if-not-keep_over.true

pub sync_over-requires-clause-taking : goal.sync_over-requires-clause-taking
sync_over-requires-clause-taking g c = (over_kept c.keep_over.result _ _ _ c.args.self.now c.log_to.new.self c.keep_over.new.self (logged_so c.log_to.result c.keep_over.result c.args.name.now _ _ _ c.args.self.now c.log_to.new.self c.keep_over.new.self c.requires.first c.log_to.ensures.told c.log_to.ensures.after c.if-not-log_to.false c.keep_over.ensures) c.keep_over.ensures c.if-not-keep_over.false).taking

pub sync_over-requires-clause-all : goal.sync_over-requires-clause-all
sync_over-requires-clause-all g c = (over_kept c.keep_over.result _ _ _ c.args.self.now c.log_to.new.self c.keep_over.new.self (logged_so c.log_to.result c.keep_over.result c.args.name.now _ _ _ c.args.self.now c.log_to.new.self c.keep_over.new.self c.requires.first c.log_to.ensures.told c.log_to.ensures.after c.if-not-log_to.false c.keep_over.ensures) c.keep_over.ensures c.if-not-keep_over.false).kept

pub returns-then-not-sync_over : goal.returns-then-not-sync_over
returns-then-not-sync_over g c =
    begins_unsynced c.sync_over.result _ _ _ c.args.self.now c.keep_over.new.self c.sync_over.new.self
    (over_kept c.keep_over.result _ _ _ c.args.self.now c.log_to.new.self c.keep_over.new.self (logged_so c.log_to.result c.keep_over.result c.args.name.now _ _ _ c.args.self.now c.log_to.new.self c.keep_over.new.self c.requires.first c.log_to.ensures.told c.log_to.ensures.after c.if-not-log_to.false c.keep_over.ensures) c.keep_over.ensures c.if-not-keep_over.false)
    c.sync_over.ensures c.if-not-sync_over.true

pub listen-requires : goal.listen-requires
listen-requires g c = record { logged = (over_synced c.sync_over.result _ _ _ c.args.self.now c.keep_over.new.self c.sync_over.new.self (over_kept c.keep_over.result _ _ _ c.args.self.now c.log_to.new.self c.keep_over.new.self (logged_so c.log_to.result c.keep_over.result c.args.name.now _ _ _ c.args.self.now c.log_to.new.self c.keep_over.new.self c.requires.first c.log_to.ensures.told c.log_to.ensures.after c.if-not-log_to.false c.keep_over.ensures) c.keep_over.ensures c.if-not-keep_over.false) c.sync_over.ensures c.if-not-sync_over.false).0.taking.logged }

pub returns-then-not-listen : goal.returns-then-not-listen
returns-then-not-listen g c =
    begins_poll_fault _ c.listen.result _ _ c.args.self.now c.sync_over.new.self c.listen.new.self
    (over_synced c.sync_over.result _ _ _ c.args.self.now c.keep_over.new.self c.sync_over.new.self (over_kept c.keep_over.result _ _ _ c.args.self.now c.log_to.new.self c.keep_over.new.self (logged_so c.log_to.result c.keep_over.result c.args.name.now _ _ _ c.args.self.now c.log_to.new.self c.keep_over.new.self c.requires.first c.log_to.ensures.told c.log_to.ensures.after c.if-not-log_to.false c.keep_over.ensures) c.keep_over.ensures c.if-not-keep_over.false) c.sync_over.ensures c.if-not-sync_over.false)
    c.listen.ensures.told c.listen.ensures.after c.if-not-listen.true

pub returns : goal.returns
returns g c =
    begins_ready _ c.listen.result _ _ c.args.self.now c.sync_over.new.self c.listen.new.self
    (over_synced c.sync_over.result _ _ _ c.args.self.now c.keep_over.new.self c.sync_over.new.self (over_kept c.keep_over.result _ _ _ c.args.self.now c.log_to.new.self c.keep_over.new.self (logged_so c.log_to.result c.keep_over.result c.args.name.now _ _ _ c.args.self.now c.log_to.new.self c.keep_over.new.self c.requires.first c.log_to.ensures.told c.log_to.ensures.after c.if-not-log_to.false c.keep_over.ensures) c.keep_over.ensures c.if-not-keep_over.false) c.sync_over.ensures c.if-not-sync_over.false)
    c.listen.ensures.told c.listen.ensures.after c.if-not-listen.false
