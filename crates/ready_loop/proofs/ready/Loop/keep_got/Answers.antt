use Rattle.std.proofs.Common.{refl}
use Rattle.ready_loop.proofs.Handled.{got_hears}
use Rattle.ready_loop.proofs.CallsIn.{no_fault, got_more, got_stops, got_state, got_on, got_kept, got_few}
use Rattle.ready_loop.proofs.ready.Loop.keep_got.Goals as goal

pub keep_next-requires-clause-some : goal.keep_next-requires-clause-some
keep_next-requires-clause-some g c = got_more c.args.self.now c.requires.got

pub keep_next-requires-clause-whole : goal.keep_next-requires-clause-whole
keep_next-requires-clause-whole g c = no_fault c.args.self.now.phase c.requires.got.running

pub returns-then-not-keep_next : goal.returns-then-not-keep_next
returns-then-not-keep_next g c = got_stops c.keep_next.result _ _ c.args.self.now c.keep_next.new.self c.requires.got c.requires.told c.keep_next.ensures.fits c.if-not-keep_next.true c.keep_next.ensures.told c.keep_next.ensures.after

pub go_on-requires : goal.go_on-requires
go_on-requires g c = got_few c.keep_next.result c.args.self.now c.keep_next.new.self c.keep_next.new.self c.if-not-keep_next.false c.keep_next.ensures.after refl c.requires.few

pub advance-requires-clause-told : goal.advance-requires-clause-told
advance-requires-clause-told g c =
    (got_on c.keep_next.result _ _ c.args.self.now c.go_on.new.self c.requires.got c.requires.told c.keep_next.ensures.fits c.if-not-keep_next.false c.keep_next.ensures.told
    (got_state c.keep_next.result c.args.self.now c.keep_next.new.self c.keep_next.new.self c.go_on.new.self c.if-not-keep_next.false c.keep_next.ensures.after refl c.go_on.ensures)).told

pub advance-requires-clause-running : goal.advance-requires-clause-running
advance-requires-clause-running g c = (got_kept c.args.self.now c.go_on.new.self c.requires.got (got_state c.keep_next.result c.args.self.now c.keep_next.new.self c.keep_next.new.self c.go_on.new.self c.if-not-keep_next.false c.keep_next.ensures.after refl c.go_on.ensures)).0

pub advance-requires-clause-kept : goal.advance-requires-clause-kept
advance-requires-clause-kept g c = (got_kept c.args.self.now c.go_on.new.self c.requires.got (got_state c.keep_next.result c.args.self.now c.keep_next.new.self c.keep_next.new.self c.go_on.new.self c.if-not-keep_next.false c.keep_next.ensures.after refl c.go_on.ensures)).1

pub returns : goal.returns
returns g c =
    got_hears c.advance.result _ _ _ c.args.self.now c.go_on.new.self c.advance.new.self
    (got_on c.keep_next.result _ _ c.args.self.now c.go_on.new.self c.requires.got c.requires.told c.keep_next.ensures.fits c.if-not-keep_next.false c.keep_next.ensures.told
    (got_state c.keep_next.result c.args.self.now c.keep_next.new.self c.keep_next.new.self c.go_on.new.self c.if-not-keep_next.false c.keep_next.ensures.after refl c.go_on.ensures))
    (got_state c.keep_next.result c.args.self.now c.keep_next.new.self c.keep_next.new.self c.go_on.new.self c.if-not-keep_next.false c.keep_next.ensures.after refl c.go_on.ensures) c.advance.ensures
