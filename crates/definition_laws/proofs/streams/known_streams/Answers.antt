use Rattle.definition_laws.proofs.Behind.{known_is_got}
use Rattle.definition_laws.proofs.Firsts.{resolved_is_first}
use Rattle.definition_laws.proofs.Nexts.{held_below, held_is_first, held_stays, known_are_legal, no_commit_next, no_opening_next, resolved_below, resolved_stays}
use Rattle.definition_laws.proofs.streams.known_streams.Goals as goal

pub returns-clause-below : goal.returns-clause-below
returns-clause-below c game me q t h d lt = (held_below game me q t h d lt, resolved_below game me q t h d lt)

pub returns-clause-next : goal.returns-clause-next
returns-clause-next c game me q t h d = (no_commit_next game me q t h d, no_opening_next game me q t h d)

pub returns-clause-first : goal.returns-clause-first
returns-clause-first c = held_is_first

pub returns-clause-legal : goal.returns-clause-legal
returns-clause-legal c = known_are_legal

pub returns-clause-stays : goal.returns-clause-stays
returns-clause-stays c game me q t g h = (held_stays game me q t g h, resolved_stays game me q t g h)

pub returns-clause-first_move : goal.returns-clause-first_move
returns-clause-first_move c = resolved_is_first

pub returns-clause-receipt : goal.returns-clause-receipt
returns-clause-receipt c = known_is_got
