use Rattle.std.proofs.Common.{List, ap, subst, sym, ℕ, ◌+◌, ◌∙◌}
use Rattle.std.proofs.lemmas.Result.{on_ok_weaker}
use Rattle.frame_index.specs.declared.seen.Seen.{Seen}
use Rattle.frame_index.specs.Heads.{Stand, past_commitment, turn_at}
use Rattle.frame_index.specs.Keeps.{Keeps}
use Rattle.frame_index.proofs.Fronts.{past_front, reveal_front, turn_of_front}
use Rattle.frame_index.proofs.heads.read_turn.Goals as goal

pub returns-clause-stand : goal.returns-clause-stand
returns-clause-stand c =
    let game = c.args.session.now in
    let q = c.args.player in
    let t = c.args.turn in
    let front = reveal_front game t c.facts.ensures c.requires.turn c.reveal_place-place.result c.reveal_place-place.ensures.place in
    on_ok_weaker c.read_commitment.result
    (λ d logs index keeps stand.
    subst (λ (n : ℕ). Stand game q logs n c.read_commitment.new.heads) (ap (λ (n : ℕ). past_commitment game (n + 1)) front ∙ past_front game t c.facts.ensures c.requires.turn)
    (d logs index
    (c.step_all.ensures.stand logs
    (subst (λ (u : ℕ). Keeps game q u logs c.deref.result.now) (sym (ap (turn_at game) front ∙ turn_of_front game t c.facts.ensures c.requires.turn))
    (subst (λ (ks : List Seen). Keeps game q t logs ks) (sym c.deref.ensures.value) keeps))
    (subst (λ (n : ℕ). Stand game q logs n c.args.heads.now) (sym front) stand)))) c.read_commitment.ensures.stand
