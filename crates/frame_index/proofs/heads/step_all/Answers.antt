use Rattle.std.proofs.Common.{◌<◌, ◌≤◌, ◌∙◌, arith, length}
use Rattle.std.proofs.lemmas.List.{length-set}
use Rattle.std.proofs.lemmas.Option.{slice_get-get_or}
use Rattle.frame_index.proofs.Headed.{halfway_none, halfway_more, halfway_all, open_set}
use Rattle.frame_index.proofs.heads.step_all.Goals as goal

pub loop-log-init : goal.loop-log-init
loop-log-init c = record {
  long = c.told-heads;
  tracks = c.requires.tracks;
  half = λ logs keeps stand. halfway_none _ _ logs _ _ stand;
}

pub step-requires-clause-track : goal.step-requires-clause-track
step-requires-clause-track c =
    let long = c.loop-log.invariant.long in
    let lt : c.loop-log.log < length c.loop-log.heads = omega arith in
    c.loop-log.invariant.tracks _ _ (slice_get-get_or c.loop-log.heads c.loop-log.log _ lt)

pub loop-log-preserved : goal.loop-log-preserved
loop-log-preserved c =
    let long = c.loop-log.invariant.long in
    let lt : c.loop-log.log < length c.loop-log.heads = omega arith in
    record {
      long = length-set c.loop-log.heads c.loop-log.log _ ∙ long;
      tracks = open_set c.args.session.now c.loop-log.heads c.loop-log.log c.step.result c.step.ensures.track c.loop-log.invariant.tracks;
      half = λ logs keeps stand. halfway_more _ _ logs c.args.place c.loop-log.log c.loop-log.heads _ c.step.result (slice_get-get_or c.loop-log.heads c.loop-log.log _ lt)
          (λ h there stands. c.step.ensures.stands logs h keeps there stands) (c.loop-log.invariant.half logs keeps stand);
    }

pub returns-clause-stand : goal.returns-clause-stand
returns-clause-stand c logs keeps stand =
    let long = c.loop-log.invariant.long in
    let le : length c.loop-log.heads ≤ c.loop-log.log = omega arith in
    halfway_all _ _ logs c.args.place c.loop-log.log c.loop-log.heads le (c.loop-log.invariant.half logs keeps stand)
