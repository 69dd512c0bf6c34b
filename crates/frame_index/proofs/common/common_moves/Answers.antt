use Rattle.std.proofs.Common.{refl, List, ◌+◌, ap, arith, length, length-append, [], ◌∷◌, ◌∙◌}
use Rattle.definitions.specs.declared.world.Move.{Move}
use Rattle.frame_index.proofs.Commonly.{all_common, common_none, more_common}
use Rattle.frame_index.proofs.Plainly.{along_none, along_on, none_more, start_opens}
use Rattle.frame_index.proofs.common.common_moves.Goals as goal

pub loop-turn-init : goal.loop-turn-init
loop-turn-init c = record {
  opens = start_opens c.args.session.now c.args.player c.read_first_commits.new.common.track c.facts.ensures c.requires (c.read_first_commits.ensures.track ∙ c.start_track.ensures);
  long = ap (λ (ms : List Move). length ms) c.clear.ensures.items;
  common = λ logs w. c.if-not-read_first_commits.ensures.read refl logs c.args.chosen.now w (common_none c.args.session.now c.args.player logs c.args.chosen.now c.start_track.result c.start_track.ensures);
  along = λ logs w. along_none c.args.session.now c.args.player logs c.read_first_commits.new.common.track (c.read_first_commits.ensures.track ∙ c.start_track.ensures);
  none = λ logs w t lt. absurd (omega (arith, lt));
  told = λ logs w t lt. absurd (omega (arith, lt));
}

pub returns-in-Over-clause-moves : goal.returns-in-Over-clause-moves
returns-in-Over-clause-moves c = λ told logs w.
    all_common c.args.session.now c.args.player logs c.args.chosen.now c.loop-turn.turn c.loop-turn.out.items c.loop-turn.invariant.long
    (c.in-Over.ensures.read logs c.args.chosen.now w (c.loop-turn.invariant.common logs w)) (c.loop-turn.invariant.told logs w)

pub loop-turn-preserved : goal.loop-turn-preserved
loop-turn-preserved c = record {
  opens = c.read_turn.ensures.opens;
  long = ap (λ (ms : List Move). length ms) c.in_ok-push-in-Shown.ensures.items ∙ length-append c.loop-turn.out.items (c.in-Shown.mv ∷ []) ∙ ap (λ n. n + 1) c.loop-turn.invariant.long;
  common = λ logs w. (c.in-Shown.ensures.read.1 logs c.args.chosen.now w (c.loop-turn.invariant.common logs w)).1;
  along = λ logs w. along_on c.args.session.now c.args.player c.loop-turn.turn logs c.args.index.now w c.in-Shown.ensures.read.0.plain c.loop-turn.common.track c.read_turn.new.common.track c.in-Shown.ensures.read.0.led (c.loop-turn.invariant.along logs w);
  none = λ logs w. none_more c.args.session.now c.args.player c.loop-turn.turn logs c.args.index.now w c.loop-turn.common.track c.read_turn.new.common.track c.in-Shown.ensures.read.0 (c.loop-turn.invariant.along logs w) (c.loop-turn.invariant.none logs w);
  told = λ logs w.
      more_common c.args.session.now c.args.player logs c.args.chosen.now c.loop-turn.turn c.loop-turn.out.items c.push.new.self.items c.in-Shown.mv c.loop-turn.invariant.long c.in_ok-push-in-Shown.ensures.items
      (c.in-Shown.ensures.read.1 logs c.args.chosen.now w (c.loop-turn.invariant.common logs w)).0 (c.loop-turn.invariant.told logs w);
}
