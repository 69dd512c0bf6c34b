use Rattle.definition_laws.proofs.Advances.{next_made_allowed}
use Rattle.definition_laws.proofs.ForPeers.{made_item, made_item_place, next_made_only}
use Rattle.definition_laws.proofs.streams.made_frames.Goals as goal

pub returns-clause-order : goal.returns-clause-order
returns-clause-order c game me k h f d i e = let at = made_item_place game me k h f d i e in (made_item game me k h f d i e, at.0, at.1, at.2)

pub returns-clause-next : goal.returns-clause-next
returns-clause-next c game me h f d i = (next_made_only game me h f d i, next_made_allowed game me h f)
