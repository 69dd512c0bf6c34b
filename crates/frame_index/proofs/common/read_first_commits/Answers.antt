use Rattle.std.proofs.Common.{arith, refl, ◌+◌, ◌∙◌}
use Rattle.frame_index.proofs.Commonly.{common_at, common_commit}
use Rattle.frame_index.proofs.Fronts.{first_orderly, reveal_front}
use Rattle.frame_index.proofs.common.read_first_commits.Goals as goal

pub loop-turn-preserved : goal.loop-turn-preserved
loop-turn-preserved c =
    let front = reveal_front c.args.session.now 0 c.facts.ensures (omega arith) c.reveal_place-turn-end.result c.reveal_place-turn-end.ensures.place in
    record {
      track = c.read_commit.ensures.track ∙ c.loop-turn.invariant.track;
      read = λ logs first w is. common_at c.args.session.now c.args.player logs first (c.loop-turn.turn + 1 + 0) (c.loop-turn.turn + 1) 0 c.read_commit.new.common (omega arith)
          (common_commit c.args.session.now c.args.player logs c.args.index.now w first c.loop-turn.turn 0 0 c.loop-turn.common c.read_commit.new.common (c.if-not-read_commit.ensures.read refl)
          (omega arith) (omega arith) (first_orderly c.args.session.now c.loop-turn.turn (omega arith))
          (common_at c.args.session.now c.args.player logs first c.loop-turn.turn (c.loop-turn.turn + 0) 0 c.loop-turn.common (omega arith) (c.loop-turn.invariant.read logs first w is)));
    }

pub returns-clause-read : goal.returns-clause-read
returns-clause-read c = λ t logs first w is.
    let front = reveal_front c.args.session.now 0 c.facts.ensures (omega arith) c.reveal_place-turn-end.result c.reveal_place-turn-end.ensures.place in
    common_at c.args.session.now c.args.player logs first c.loop-turn.turn _ 0 c.loop-turn.common (omega arith) (c.loop-turn.invariant.read logs first w is)
