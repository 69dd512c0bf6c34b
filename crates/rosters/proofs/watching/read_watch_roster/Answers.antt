use Rattle.std.proofs.Common.{arith}
use Rattle.rosters.proofs.Everybody.{found_each, read_from}
use Rattle.rosters.specs.declared.watching.TheConstants.{NOBODY}
use Rattle.definitions.specs.World.{players_of}
use Rattle.rosters.proofs.watching.read_watch_roster.Goals as goal

pub returns-clause-found : goal.returns-clause-found
returns-clause-found c = found_each NOBODY (players_of c.args.session.now) c.args.text.now c.read_roster.result (omega (arith, c.facts.ensures.players)) c.read_roster.ensures.found

pub returns-clause-only : goal.returns-clause-only
returns-clause-only c r from = c.read_roster.ensures.only r (read_from NOBODY (players_of c.args.session.now) r c.args.text.now (omega (arith, c.facts.ensures.players)) from)
