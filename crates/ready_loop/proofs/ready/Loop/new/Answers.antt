use Rattle.std.proofs.Common.{sym, subst}
use Rattle.definitions.specs.World.{players_of}
use Rattle.loop_rules.specs.Told.{DiffersBy}
use Rattle.ready_loop.proofs.New.{links_differ, new_table, new_state, new_fits}
use Rattle.ready_loop.proofs.ready.Loop.new.Goals as goal

pub new-requires : goal.new-requires
new-requires c = subst (DiffersBy (λ l. l.player)) (sym c.links.ensures) (links_differ c.args.peer.me (players_of c.args.peer.game) c.args.roster c.requires)

pub invariant_of-result : goal.invariant_of-result
invariant_of-result c =
    new_fits c.args.peer c.args.roster c.entries-over.result.now c.in_ok-table.table c.new-writer.result c.session-session.result.now c.me.result c.requires c.entries-over.ensures
    (new_table c.args.peer c.args.roster c.in_ok-table.table c.links.result.now c.session-session.result.now c.turns.result c.links.ensures c.session-session.ensures c.turns.ensures.value c.in_ok-table.ensures)
    c.session-session.ensures c.me.ensures c.new-writer.ensures

pub returns : goal.returns
returns c =
    new_state c.args.peer c.args.roster c.entries-over.result.now c.in_ok-table.table c.entries-over.ensures
    (new_table c.args.peer c.args.roster c.in_ok-table.table c.links.result.now c.session-session.result.now c.turns.result c.links.ensures c.session-session.ensures c.turns.ensures.value c.in_ok-table.ensures)
