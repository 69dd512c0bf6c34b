use Rattle.agreed_turns.proofs.GoingOn.{goes_further, goes_nowhere}
use Rattle.agreed_turns.proofs.turns.read_on.Goals as goal

pub places-init : goal.places-init
places-init c = record {
  accords = c.requires.accords;
  track = c.requires.track;
  on = λ fs shows read. goes_nowhere c.args.session.now c.args.player fs _ _ read;
}

pub places-preserved : goal.places-preserved
places-preserved c = record {
  accords = c.step.ensures.accords;
  track = c.in-Some.ensures.track;
  on = λ fs shows read.
      let on = c.places.invariant.on fs shows read in
      goes_further c.args.session.now c.args.player fs _ _ _ _ _ _ read on (c.in-Some.ensures.on fs shows on.read);
}
