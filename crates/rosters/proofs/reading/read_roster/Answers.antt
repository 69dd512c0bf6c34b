use Rattle.rosters.proofs.Taken.{found_in, read_of}
use Rattle.rosters.proofs.reading.read_roster.Goals as goal

pub returns-clause-found : goal.returns-clause-found
returns-clause-found c = rw (← c.players-players.ensures.value) (found_in c.args.me c.players-players.result c.args.text.now c.roster_of.result c.roster_of.ensures)

pub returns-clause-only : goal.returns-clause-only
returns-clause-only c = rw (← c.players-players.ensures.value) (λ r from. read_of c.args.me c.players-players.result c.args.text.now c.roster_of.result r c.roster_of.ensures from)
