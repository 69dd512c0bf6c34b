use Rattle.loop_rules.proofs.Prefixes.{prefixes, items_are_allowed, allowed_are_added}
use Rattle.loop_rules.proofs.laws.histories_grow_by_items.Goals as goal

pub returns-clause-prefixes : goal.returns-clause-prefixes
returns-clause-prefixes c = prefixes

pub returns-clause-items : goal.returns-clause-items
returns-clause-items c = items_are_allowed

pub returns-clause-added : goal.returns-clause-added
returns-clause-added c = allowed_are_added
