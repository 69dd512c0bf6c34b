use Rattle.roots.proofs.Taken.{found_in, read_of}
use Rattle.roots.proofs.reading.read_roots.Goals as goal

pub returns-clause-found : goal.returns-clause-found
returns-clause-found c = rw (← c.players-players.ensures.value) (found_in c.players-players.result c.args.text.now c.roots_of.result c.roots_of.ensures)

pub returns-clause-only : goal.returns-clause-only
returns-clause-only c =
    rw (← c.players-players.ensures.value) (λ r from. read_of c.players-players.result c.args.text.now c.roots_of.result r c.players-players.ensures.most c.roots_of.ensures from)
