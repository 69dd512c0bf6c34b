use Rattle.frame_index.proofs.Placed.{still_there}
use Rattle.frame_index.proofs.kept.note_place.Goals as goal

pub returns-in_ok-insert-clause-stay : goal.returns-in_ok-insert-clause-stay
returns-in_ok-insert-clause-stay c = λ key is. still_there c.args.places.now c.insert.new.self c.args.key c.args.at c.in_ok-insert.ensures.updates.0 key is
