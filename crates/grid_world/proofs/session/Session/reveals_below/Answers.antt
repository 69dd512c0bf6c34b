use Rattle.grid_world.proofs.Reveals.{commit_turn_below, reveals_by_commit, reveals_by_none, reveals_by_reveal}
use Rattle.grid_world.proofs.session.Session.reveals_below.Goals as goal

pub overflow_sub-result : goal.overflow_sub-result
overflow_sub-result c = commit_turn_below c.args.self.now c.args.place c.slot_at.result c.in-Some.slot c.slot_at.ensures c.in-Some.is c.in-Commit.is

pub returns-in-None : goal.returns-in-None
returns-in-None c = reveals_by_none c.args.self.now c.args.place _ c.slot_at.result c.facts.ensures c.slot_at.ensures c.in-None.is c.turns.ensures.value

pub returns-in-Commit : goal.returns-in-Commit
returns-in-Commit c = reveals_by_commit c.args.self.now c.args.place c.slot_at.result c.in-Some.slot c.facts.ensures c.slot_at.ensures c.in-Some.is c.in-Commit.is

pub returns-in-Reveal : goal.returns-in-Reveal
returns-in-Reveal c = reveals_by_reveal c.args.self.now c.args.place c.slot_at.result c.in-Some.slot c.slot_at.ensures c.in-Some.is c.in-Reveal.is
