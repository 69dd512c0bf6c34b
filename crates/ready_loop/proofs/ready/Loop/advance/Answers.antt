use Rattle.std.proofs.Common.{refl}
use Rattle.ready_loop.proofs.CallsIn.{advanced_fits, advanced_told, advanced_made, advances}
use Rattle.ready_loop.proofs.ready.Loop.advance.Goals as goal

pub invariant_of-self : goal.invariant_of-self
invariant_of-self g c = advanced_fits _ c.self.inside.writer c.advance.new.self c.self.invariant c.advance.ensures.log

pub keep_made-requires-clause-told : goal.keep_made-requires-clause-told
keep_made-requires-clause-told g c = advanced_told _ _ c.args.self.now _ c.advance.new.self c.self.inside.writer (c.self.view_is, c.advance.ensures.log, refl) c.self.invariant c.requires.told

pub keep_made-requires-clause-made : goal.keep_made-requires-clause-made
keep_made-requires-clause-made g c = advanced_made _ c.args.self.now _ c.advance.new.self (c.self.view_is, c.advance.ensures.log, refl) c.requires.kept

pub returns : goal.returns
returns g c = advances c.keep_made.result _ _ _ c.args.self.now _ c.keep_made.new.self c.advance.new.self c.self.inside.writer (c.self.view_is, c.advance.ensures.log, refl) c.self.invariant c.keep_made.ensures
