use Rattle.std.proofs.Common.{ℕ, List, ◌≡◌, ◌+◌, ◌-◌, ◌∙◌, true, false, ap, arith, sym, drop, length}
use Rattle.std.specs.Prelude.{◌==◌, is_some}
use Rattle.std.proofs.lemmas.List.{drop-drop, length-drop, take_rest}
use Rattle.seal_keys.specs.Seals.{seal_len}
use Rattle.seal_keys.proofs.Heights.{tree_height_within}
use Rattle.sealed_files.specs.SealedFrames.{bad_from, frame_len, sealed_ahead}
use Rattle.sealed_files.proofs.Told.{bad_done, bad_empty, bad_here, bad_on, empty_by, sealed_within}
use Rattle.sealed_files.proofs.reading.bad_in.Goals as goal

pub returns-then-is_empty : goal.returns-then-is_empty
returns-then-is_empty c =
    let at = c.loop-step.at in
    let bytes = c.args.bytes.now in
    let e = take_rest bytes at in
    let empty = empty_by (drop at bytes) c.is_empty.result (c.is_empty.ensures ∙ ap (λ (xs : List ℕ). length xs == 0) e) ∙ c.if-is_empty.true in
    sym (c.loop-step.invariant.same ∙ bad_empty c.args.session.now c.args.roots.now (length bytes - c.loop-step.step) at (drop at bytes) empty)

pub returns-then-not-is_some : goal.returns-then-not-is_some
returns-then-not-is_some c =
    let at = c.loop-step.at in
    let bytes = c.args.bytes.now in
    let game = c.args.session.now in
    let roots = c.args.roots.now in
    let e = take_rest bytes at in
    let empty = empty_by (drop at bytes) c.is_empty.result (c.is_empty.ensures ∙ ap (λ (xs : List ℕ). length xs == 0) e) ∙ c.if-is_empty.false in
    let none : is_some (sealed_ahead game roots (drop at bytes)) ≡ false
    = ap (λ (xs : List ℕ). is_some (sealed_ahead game roots xs)) (sym e) ∙ ap is_some (sym c.sealed_ahead.ensures.frame) ∙ sym c.is_some.ensures ∙ c.if-not-is_some.true in
    sym (c.loop-step.invariant.same ∙ bad_here game roots (length bytes - c.loop-step.step) at (drop at bytes) (omega arith) empty none)

pub sealed_len-at-requires : goal.sealed_len-at-requires
sealed_len-at-requires c = let most = tree_height_within c.args.session.now in omega (arith, c.sealed_ahead.ensures.length, c.loop-step.invariant.room)

pub loop-step-preserved : goal.loop-step-preserved
loop-step-preserved c =
    let at = c.loop-step.at in
    let step = c.loop-step.step in
    let bytes = c.args.bytes.now in
    let game = c.args.session.now in
    let roots = c.args.roots.now in
    let rest : List ℕ = drop at bytes in
    let e = take_rest bytes at in
    let empty = empty_by rest c.is_empty.result (c.is_empty.ensures ∙ ap (λ (xs : List ℕ). length xs == 0) e) ∙ c.if-is_empty.false in
    let some : is_some (sealed_ahead game roots rest) ≡ true
    = ap (λ (xs : List ℕ). is_some (sealed_ahead game roots xs)) (sym e) ∙ ap is_some (sym c.sealed_ahead.ensures.frame) ∙ sym c.is_some.ensures ∙ c.if-not-is_some.false in
    let room : length c.sealed_ahead.new.seal ≡ seal_len game = c.sealed_ahead.ensures.length ∙ c.loop-step.invariant.room in
    let count : c.sealed_len-at.result ≡ frame_len rest + seal_len game
    = c.sealed_len-at.ensures ∙ ap (λ (xs : List ℕ). frame_len xs + length c.sealed_ahead.new.seal) e ∙ ap (λ (n : ℕ). frame_len rest + n) room in
    let within = sealed_within game roots rest some in
    let left : length bytes - step - 1 ≡ length bytes - (step + 1) = omega arith in
    record {
      within = omega (arith, length-drop at bytes);
      room = room;
      same = c.loop-step.invariant.same ∙ bad_on game roots (length bytes - step) at rest (omega arith) empty some
          ∙ ap (λ (n : ℕ). bad_from game roots n (at + (frame_len rest + seal_len game)) (drop (frame_len rest + seal_len game) rest)) left
          ∙ ap (λ (n : ℕ). bad_from game roots (length bytes - (step + 1)) (at + n) (drop n rest)) (sym count)
          ∙ ap (bad_from game roots (length bytes - (step + 1)) (at + c.sealed_len-at.result)) (drop-drop c.sealed_len-at.result at bytes);
    }

pub returns : goal.returns
returns c =
    let none : length c.args.bytes.now - c.loop-step.step ≡ 0 = omega arith in
    sym (c.loop-step.invariant.same ∙ bad_done c.args.session.now c.args.roots.now _ c.loop-step.at (drop c.loop-step.at c.args.bytes.now) none)
