use Rattle.std.proofs.Common.{List, sym, subst}
use Rattle.playout.specs.declared.standing.Standing.{Standing}
use Rattle.playout.specs.Playing.{IsLockstep}
use Rattle.playout.proofs.Standings.{fresh_counted, fresh_lockstep}
use Rattle.playout.proofs.turns.Playout.new.Goals as goal

pub invariant_of-result : goal.invariant_of-result
invariant_of-result c = fresh_counted c.args.session.now c.in_ok-standings.standings.items c.in_ok-standings.ensures

pub returns-clause-lockstep : goal.returns-clause-lockstep
returns-clause-lockstep c = λ moves.
    subst (λ (ss : List Standing). IsLockstep c.args.session.now moves (record { turns = 0; standings = ss })) (sym c.in_ok-standings.ensures) (fresh_lockstep c.args.session.now moves)
