use Rattle.std.proofs.Common.{refl, ◌∙◌}
use Rattle.std.proofs.lemmas.Option.{slice_get-get_or}
use Rattle.agreed_turns.proofs.Heeding.{all_heeded, all_more, all_none}
use Rattle.agreed_turns.proofs.agreed.AgreedTurns.heed.Goals as goal

pub loop-entry-init : goal.loop-entry-init
loop-entry-init c = record {
  game = refl;
  heeding = λ logs h there is hold. all_none c.args.self.now.game logs c.args.owner h c.args.entries.now c.args.self.now c.facts.ensures there is;
}

pub loop-entry-preserved : goal.loop-entry-preserved
loop-entry-preserved c = record {
  game = c.heed_entry.ensures.game ∙ c.loop-entry.invariant.game;
  heeding = λ logs h there is hold.
      all_more c.args.self.now.game logs c.args.owner c.args.got.now c.args.made.now h c.args.entries.now c.loop-entry.entry-index _ c.loop-entry.self.players c.heed_entry.new.self.players
      c.loop-entry.self.game there (slice_get-get_or c.args.entries.now c.loop-entry.entry-index _ c.loop-entry-test.true) hold c.loop-entry.invariant.game c.heed_entry.ensures.heeds
      (c.loop-entry.invariant.heeding logs h there is hold);
}

pub returns-clause-heeded : goal.returns-clause-heeded
returns-clause-heeded c logs h there is hold =
    all_heeded c.args.self.now.game logs c.args.owner h c.args.entries.now c.loop-entry.entry-index c.args.self.now c.loop-entry.self c.loop-entry-test.false there c.loop-entry.invariant.game is
    (c.loop-entry.invariant.heeding logs h there is hold)
