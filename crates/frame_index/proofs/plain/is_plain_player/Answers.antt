use Rattle.std.proofs.Common.{refl, List, Option, Some, subst}
use Rattle.definitions.specs.declared.world.Track.{Track}
use Rattle.frame_index.specs.declared.kept.KeptFrame.{KeptFrame}
use Rattle.frame_index.specs.Frames.{kept_of}
use Rattle.frame_index.specs.Plain.{IsPlain, LeadsTo, move_in}
use Rattle.frame_index.proofs.Plainly.{along_on, led_opens, none_more}
use Rattle.frame_index.proofs.plain.is_plain_player.Goals as goal

pub loop-turn-preserved : goal.loop-turn-preserved
loop-turn-preserved c =
    let game = c.args.session.now in
    let q = c.args.player in
    let ks = kept_of c.args.index.now q c.loop-turn.turn in
    let plain : IsPlain ks = subst IsPlain c.kept-kept.ensures (c.if-not-is_plain.ensures refl) in
    let led : LeadsTo game q c.loop-turn.track (move_in ks) (Some c.in-Some.next) =
    subst (λ (o : Option Track). LeadsTo game q c.loop-turn.track (move_in ks) o) c.in-Some.is
    (subst (λ (xs : List KeptFrame). LeadsTo game q c.loop-turn.track (move_in xs) c.track_behind.result) c.kept-kept.ensures c.track_behind.ensures) in
    record {
      track = led_opens game q c.loop-turn.track c.in-Some.next (move_in ks) led c.loop-turn.invariant.track;
      along = λ logs w. along_on game q c.loop-turn.turn logs c.args.index.now w plain c.loop-turn.track c.in-Some.next led (c.loop-turn.invariant.along logs w);
      none = λ logs w.
          none_more game q c.loop-turn.turn logs c.args.index.now w c.loop-turn.track c.in-Some.next (record { plain = plain; led = led }) (c.loop-turn.invariant.along logs w) (c.loop-turn.invariant.none logs w);
    }
