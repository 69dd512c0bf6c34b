use Rattle.std.proofs.Common.{◌≡◌, ◌<◌, ◌∙◌, sym, ap, arith}
use Rattle.definitions.specs.World.{Game, players_of}
use Rattle.definitions.specs.Steps.{log_of}
use Rattle.schedule.specs.Stands.{waits_for}
use Rattle.schedule.proofs.Firsts.{any_later}
use Rattle.schedule.proofs.table.Table.is_waited_for.Goals as goal

pub loop-who-preserved : goal.loop-who-preserved
loop-who-preserved c =
    let t = c.args.self.now in
    let end : c.players-who-end.result ≡ players_of t.game = c.players-who-end.ensures.value ∙ ap (λ (g : Game). players_of g) c.session.ensures in
    let lt : c.loop-who.who < players_of t.game = omega (arith, c.loop-who-test.true, end) in
    sym (any_later (λ p. waits_for t.game p (log_of t.logs p) c.args.player) c.loop-who.who (players_of t.game) lt (sym c.waits_for.ensures ∙ c.if-waits_for.false)) ∙ c.loop-who.invariant
