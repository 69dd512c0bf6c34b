use Rattle.ready_loop.proofs.Choosing.{has_put, put_fits, put_on, choose_faults, choose_ends}
use Rattle.ready_loop.proofs.ready.Loop.choose.Goals as goal

pub invariant_of-self : goal.invariant_of-self
invariant_of-self g c = put_fits _ _ c.choose_move.result _ c.self.inside.writer c.choose_move.new.peer c.self.invariant c.choose_move.ensures

pub returns-then-not-keep_next : goal.returns-then-not-keep_next
returns-then-not-keep_next g c =
    choose_faults _ _ c.keep_next.result _ _ c.args.self.now _ c.keep_next.new.self c.requires.playing
    (has_put _ _ c.choose_move.result _ c.args.self.now c.self.inside.writer c.choose_move.new.peer c.self.view_is c.self.invariant c.choose_move.ensures c.in_default.is)
    c.keep_next.ensures.fits c.if-not-keep_next.true c.keep_next.ensures.told c.keep_next.ensures.after

pub advance-requires-clause-told : goal.advance-requires-clause-told
advance-requires-clause-told g c =
    (put_on _ _ c.keep_next.result _ _ c.args.self.now _ c.keep_next.new.self c.requires.playing
    (has_put _ _ c.choose_move.result _ c.args.self.now c.self.inside.writer c.choose_move.new.peer c.self.view_is c.self.invariant c.choose_move.ensures c.in_default.is)
    c.keep_next.ensures.fits c.if-not-keep_next.false c.keep_next.ensures.told c.keep_next.ensures.after).grows.told

pub returns : goal.returns
returns g c =
    choose_ends _ _ c.advance.result _ _ _ c.args.self.now c.keep_next.new.self c.advance.new.self c.requires.playing
    (put_on _ _ c.keep_next.result _ _ c.args.self.now _ c.keep_next.new.self c.requires.playing
    (has_put _ _ c.choose_move.result _ c.args.self.now c.self.inside.writer c.choose_move.new.peer c.self.view_is c.self.invariant c.choose_move.ensures c.in_default.is)
    c.keep_next.ensures.fits c.if-not-keep_next.false c.keep_next.ensures.told c.keep_next.ensures.after)
    c.advance.ensures
