use Rattle.std.proofs.Common.{Option, subst, sym, ◌∙◌}
use Rattle.definitions.specs.declared.world.Move.{Move}
use Rattle.frame_index.specs.Plain.{LeadsTo}
use Rattle.frame_index.proofs.Plainly.{legal_led}
use Rattle.frame_index.proofs.plain.track_behind.Goals as goal

pub returns-in-Some : goal.returns-in-Some
returns-in-Some c = subst (λ (o : Option Move). LeadsTo c.args.session.now c.args.player c.args.track.now o c.ok.result) (sym c.in-Some.is ∙ c.move_in.ensures)
    (legal_led c.args.session.now c.args.player c.args.track.now c.in-Some.mv c.legal.result c.ok.result c.legal.ensures c.ok.ensures.value)
