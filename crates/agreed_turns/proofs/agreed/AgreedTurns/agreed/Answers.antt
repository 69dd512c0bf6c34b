use Rattle.std.proofs.Common.{◌∙◌}
use Rattle.agreed_turns.proofs.Counted.{count_at}
use Rattle.agreed_turns.proofs.agreed.AgreedTurns.agreed.Goals as goal

pub returns : goal.returns
returns c logs is =
    c.agreed.ensures ∙ count_at c.self.inside.session c.self.inside.players.items c.args.self.now logs c.from.result c.args.player c.index.result.now c.self.view_is c.self.invariant is c.from.ensures c.requires c.index.ensures
