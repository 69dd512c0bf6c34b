use Rattle.std.proofs.Common.{◌≡◌, ◌++◌, ◌<◌, ◌∙◌, ap, arith, length, ℕ}
use Rattle.std.specs.Prelude.{flat_map}
use Rattle.std.specs.List.{range_with_len}
use Rattle.definitions.specs.Findings.{got_known}
use Rattle.definitions.specs.Logs.{got_of}
use Rattle.evidence.specs.Showing.{turn_shown, turns_shown}
use Rattle.auditor.proofs.Ranged.{shown_more}
use Rattle.auditor.proofs.turns.put_turns.Goals as goal

pub loop-before-preserved : goal.loop-before-preserved
loop-before-preserved c = record {
  here = c.put_turn.ensures.track;
  shown = λ logs h w there le.
      let prev = c.loop-before.invariant.shown logs h w there le in
      let turn = c.loop-before-test.true in
      let lt : c.loop-before.before < length (got_known c.args.session.now c.args.player h).moves = omega (arith, le, turn) in
      let t = c.in_ok-put_turn.ensures.turn logs h w there (lt, prev.1) in
      (shown_more (turn_shown c.args.session.now c.args.player (got_known c.args.session.now c.args.player h) (got_of c.args.player h)) c.loop-before.before c.args.out.now.items c.loop-before.out.items c.put_turn.new.out.items prev.0 t.0, t.1);
}

pub returns : goal.returns
unfolding turns_shown
returns c = λ logs h w there le.
    let prev = c.loop-before.invariant.shown logs h w there le in
    let all : c.loop-before.before ≡ c.args.turn = omega (arith, c.loop-before-test.false, c.loop-before.auto.before-end) in
    prev.0 ∙ ap (λ (n : ℕ). c.args.out.now.items ++ flat_map (turn_shown c.args.session.now c.args.player (got_known c.args.session.now c.args.player h) (got_of c.args.player h)) (range_with_len 0 n)) all
