use Rattle.std.proofs.Common.{arith, ◌∙◌}
use Rattle.std.proofs.lemmas.List.{with_items_is}
use Rattle.peer_core.proofs.Counted.{counted_turn}
use Rattle.peer_core.proofs.settling.Settling.count.Goals as goal

pub returns-clause-counting : goal.returns-clause-counting
returns-clause-counting c =
    let moves = c.self.inside.moves in
    let as_items = with_items_is moves c.moves_at.new.out (omega (arith, c.moves_at.auto.out, c.deref_mut.ensures.len)) in
    counted_turn c.args.session.now c.args.me c.turns.result c.args._entries.now c.args.self.now c.self.inside.playout c.own_turn.new.self c.args.others.now c.args.own.now c.as_slice.result.now
    c.requires.others c.requires.counting c.requires.left c.requires.settled c.requires.own c.self.view_is c.turns.ensures (c.as_slice.ensures.value ∙ as_items ∙ c.moves_at.ensures) c.own_turn.ensures.after c.own_turn.ensures.players c.own_turn.ensures.score
