use Rattle.std.proofs.Common.{sym, ◌∙◌}
use Rattle.make_command.proofs.Places.{place_low}
use Rattle.make_command.proofs.playing.Playing.step.Goals as goal

pub bring-requires-clause-place : goal.bring-requires-clause-place
bring-requires-clause-place c =
    place_low c.self.inside.table.game c.session.result.now c.self.inside.table.logs c.in-Behind.player c.in-Behind.whose c.in-Behind.place c.facts-2.ensures c.session.ensures c.facts.ensures.honest
    (sym c.stand.ensures.exact ∙ c.in-Behind.is)
