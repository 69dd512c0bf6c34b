use Rattle.std.proofs.Common.{ap, arith, false, inl, inr, subst, sym, true, ℕ, ◌∙◌, ◌≡◌}
use Rattle.std.specs.Prelude.{not}
use Rattle.std.proofs.lemmas.Bool.{cases_lt, false≢true, not-false}
use Rattle.definitions.specs.Moves.{IsLegal, is_legal}
use Rattle.playout.specs.Hits.{move_of, no_move}
use Rattle.playout.specs.Playing.{standing_of}
use Rattle.auditor.proofs.Worlds.{item_any, refused}
use Rattle.auditor.proofs.world.are_legal.Goals as goal

pub returns-then-is_err-clause-no : goal.returns-then-is_err-clause-no
returns-then-is_err-clause-no c = λ now.
    let game = c.args.session.now in
    let player = c.loop-player.player in
    let lt = c.loop-player-test.true in
    let value = c.players-player-end.ensures.value in
    let long = now.one_each in
    let from = c.from-in-loop-player.ensures in
    let item = item_any c.args.moves.now c.from-in-loop-player.result _ no_move (omega (arith, lt, value, long, from)) ∙ ap (λ (n : ℕ). move_of c.args.moves.now n) from in
    let legal : is_legal game player c.world_at-track.result _ ≡ true =
    (λ i. is_legal game player (c.world_at-track.ensures i) (item i)) ∙ now.legal player (omega (arith, lt, value)) in
    absurd (false≢true (sym (ap not legal) ∙ refused game player c.world_at-track.result _ c.legal.result c.is_err.result c.legal.ensures c.is_err.ensures.value ∙ c.if-is_err.true))

pub loop-player-preserved : goal.loop-player-preserved
loop-player-preserved c = record {
  legal = λ q less. elim (cases_lt q c.loop-player.player) [
    | inl before ↦ c.loop-player.invariant.legal q before
    | inr here ↦
        let game = c.args.session.now in
        let player = c.loop-player.player in
        let lt = c.loop-player-test.true in
        let value = c.players-player-end.ensures.value in
        let is : q ≡ player = omega (arith, less, here) in
        let from = c.from-in-loop-player.ensures in
        let item = item_any c.args.moves.now c.from-in-loop-player.result _ no_move (omega arith) ∙ ap (λ (n : ℕ). move_of c.args.moves.now n) from in
        let kept : not (is_legal game player c.world_at-track.result _) ≡ false =
        refused game player c.world_at-track.result _ c.legal.result c.is_err.result c.legal.ensures c.is_err.ensures.value ∙ c.if-is_err.false in
        subst (λ (p : ℕ). IsLegal game p (standing_of c.args.playout.now p).track (move_of c.args.moves.now p)) (sym is)
        ((λ i. is_legal game player (sym c.world_at-track.ensures i) (sym item i)) ∙ not-false _ kept)
  ];
}
