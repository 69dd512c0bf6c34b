use Rattle.std.proofs.Common.{List, ap, arith, sym, subst, ℕ, ◌+◌, ◌∙◌, ◌≡◌, map}
use Rattle.std.proofs.lemmas.Bool.{false≢true}
use Rattle.definitions.specs.declared.world.Move.{Move}
use Rattle.playout.specs.Lockstep.{turn_moves}
use Rattle.playout.specs.Playing.{AreLegalNow, Played}
use Rattle.auditor.specs.Played.{AreOpen, moves_at}
use Rattle.auditor.proofs.Worlds.{fresh_open, moves_are, turn_open}
use Rattle.auditor.proofs.world.play.Goals as goal

pub loop-turn-init : goal.loop-turn-init
loop-turn-init c = record {
  players = c.in_ok-playout.ensures.players;
  turns = ap (λ (p : Played). p.turns) c.in_ok-playout.ensures.fresh;
  opens = subst (AreOpen c.args.session.now) (sym c.in_ok-playout.ensures.fresh) (λ q lt. fresh_open c.args.session.now c.args.session.now.seats q c.facts.ensures.starts lt);
  lockstep = λ legal. c.in_ok-playout.ensures.lockstep (map (λ own. own.items) c.args.moves.now);
}

pub loop-turn-preserved : goal.loop-turn-preserved
loop-turn-preserved c =
    let before = c.loop-turn.invariant in
    let now = c.are_legal.ensures.yes c.if-not-are_legal.false in
    let game = c.args.session.now in
    let lists = map (λ own. own.items) c.args.moves.now in
    let moves : c.deref-in-loop-turn.result.now ≡ moves_at lists c.loop-turn.turn = c.deref-in-loop-turn.ensures.value ∙ c.in_ok-put_turn.ensures in
    record {
      players = c.turn.ensures.players ∙ before.players;
      turns = ap (λ (p : Played). p.turns) c.turn.ensures.after ∙ ap (λ (n : ℕ). n + 1) before.turns;
      opens = subst (AreOpen game) (sym c.turn.ensures.after)
          (turn_open game c.deref-in-loop-turn.result.now c.loop-turn.playout before.players (subst (λ (ms : List Move). AreLegalNow game c.loop-turn.playout ms) (c.deref.ensures.value ∙ sym c.deref-in-loop-turn.ensures.value) now));
      lockstep = λ legal. c.turn.ensures.lockstep lists (before.lockstep legal)
          (moves ∙ moves_are game.turns c.loop-turn.turn lists legal.each_long (let lt = c.loop-turn-test.true in let value = c.turns-turn-end.ensures.value in omega (arith, lt, value)) ∙ ap (turn_moves lists) (sym before.turns));
    }

pub returns-then-not-are_legal-clause-lockstep : goal.returns-then-not-are_legal-clause-lockstep
returns-then-not-are_legal-clause-lockstep c = λ legal.
    let before = c.loop-turn.invariant in
    let game = c.args.session.now in
    let lists = map (λ own. own.items) c.args.moves.now in
    let lt = c.loop-turn-test.true in
    let value = c.turns-turn-end.ensures.value in
    let turns = before.turns in
    let now : AreLegalNow game c.loop-turn.playout (turn_moves lists c.loop-turn.playout.turns) =
    c.players_follow_their_moves.ensures.played game lists game.turns c.loop-turn.playout legal (before.lockstep legal) (omega (arith, lt, value, turns)) in
    let moves : c.deref.result.now ≡ turn_moves lists c.loop-turn.playout.turns =
    c.deref.ensures.value ∙ c.in_ok-put_turn.ensures ∙ moves_are game.turns c.loop-turn.turn lists legal.each_long (omega (arith, lt, value)) ∙ ap (turn_moves lists) (sym turns) in
    absurd (false≢true (sym c.if-not-are_legal.true ∙ c.are_legal.ensures.no (subst (AreLegalNow game c.loop-turn.playout) (sym moves) now)))
