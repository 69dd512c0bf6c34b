use Rattle.std.proofs.Common.{arith, subst, ℕ}
use Rattle.frame_index.specs.Heads.{Stand}
use Rattle.frame_index.proofs.Fronts.{past_first, reveal_front}
use Rattle.frame_index.proofs.heads.read_first.Goals as goal

pub loop-place-preserved : goal.loop-place-preserved
loop-place-preserved c =
    let front = reveal_front c.args.session.now 0 c.facts.ensures (omega arith) c.reveal_place-place-end.result c.reveal_place-place-end.ensures.place in
    record {
      tracks = c.read_commitment.ensures.tracks;
      stand = λ logs index stand. subst (λ (n : ℕ). Stand c.args.session.now c.args.player logs n c.read_commitment.new.heads) (past_first c.args.session.now c.loop-place.place c.facts.ensures (omega arith))
          (c.in_ok-read_commitment.ensures.stand logs index (c.loop-place.invariant.stand logs index stand));
    }

pub returns-clause-stand : goal.returns-clause-stand
returns-clause-stand c logs index stand =
    let front = reveal_front c.args.session.now 0 c.facts.ensures (omega arith) c.reveal_place-place-end.result c.reveal_place-place-end.ensures.place in
    subst (λ (n : ℕ). Stand c.args.session.now c.args.player logs n c.loop-place.heads) (omega arith) (c.loop-place.invariant.stand logs index stand)
