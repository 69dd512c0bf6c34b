use Rattle.std.proofs.Common.{refl, List, Option, ap, subst, ◌∙◌}
use Rattle.std.specs.Prelude.{◌&&◌}
use Rattle.definitions.specs.declared.findings.Spot.{Spot}
use Rattle.definitions.specs.declared.world.Track.{Track}
use Rattle.frame_index.specs.declared.kept.KeptFrame.{KeptFrame}
use Rattle.frame_index.specs.Frames.{kept_of}
use Rattle.frame_index.specs.Plain.{IsPlain, LeadsTo, is_among, is_in, move_in, reveal_spots}
use Rattle.frame_index.proofs.common.read_reveal.Goals as goal

pub returns-clause-read : goal.returns-clause-read
returns-clause-read c = (
  c.move_in.ensures ∙ ap move_in c.kept-kept.ensures,
  record {
    plain = subst IsPlain c.kept-kept.ensures (c.if-not-is_plain.ensures refl);
    led = subst (λ (o : Option Track). LeadsTo c.args.session.now c.args.player c.args.common.now.track (move_in (kept_of c.args.index.now c.args.player c.args.turn)) o) c.in_ok-next.was
        (subst (λ (xs : List KeptFrame). LeadsTo c.args.session.now c.args.player c.args.common.now.track (move_in xs) c.track_behind.result) c.kept-kept.ensures c.track_behind.ensures);
    left = λ i. c.leave.ensures i ∙ ap (λ (spots : List Spot). is_among c.args.common.now.chosen i && is_in spots i) (c.reveal_spots.ensures ∙ ap reveal_spots c.kept-kept.ensures);
  },
)
