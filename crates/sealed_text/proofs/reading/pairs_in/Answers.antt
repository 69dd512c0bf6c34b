use Rattle.std.proofs.Common.{◌≡◌, List, ℕ, ◌∷◌, Err, refl, sym, ap, ◌∙◌, arith, rules, take, drop, ◌+◌, length, vec_len}
use Rattle.std.proofs.lemmas.Result.{err_from_is_err_and}
use Rattle.text_lines.specs.Lines.{ended_lines_of, line_len}
use Rattle.text_lines.proofs.FirstLine.{ended_lines_of-first, some_left, none_left}
use Rattle.text_lines.proofs.Answers.{said_fails}
use Rattle.text_fields.specs.declared.fault.TextFault.TheVariants.{At}
use Rattle.text_fields.specs.Faults.{is_memory}
use Rattle.evidence.specs.Reading.{is_end}
use Rattle.seal_keys.specs.Seals.{seal_len}
use Rattle.sealed_text.specs.Reading.{frame_at, line_after, pairs_at, seal_at}
use Rattle.sealed_text.proofs.Loops.{frame_fails, pairs_end, pairs_missing, pairs_more, pairs_past, seal_fails}
use Rattle.sealed_text.proofs.reading.pairs_in.Goals as goal

pub returns-then-is_empty : goal.returns-then-is_empty
returns-then-is_empty c =
    let r = c.loop-rest in
    let n = seal_len c.args.session.now in
    let line = c.take_line.result.0.now in
    let after = c.take_line.result.1.now in
    let total = pairs_at n 0 (ended_lines_of c.args.text.now) in
    let split = ended_lines_of-first r.rest.now line after (some_left r.rest.now c.is_empty.result c.is_empty.ensures c.loop-rest-test.true) c.take_line.ensures.line c.take_line.ensures.rest in
    let len : vec_len r.frames ≡ length r.frames.items = search rules in
    let end = ap (λ (k : ℕ). is_end k line) (sym (c.len.ensures ∙ len)) ∙ sym c.if-is_end.ensures in
    let none = none_left after c.is_empty-then-is_end.result c.is_empty-then-is_end.ensures c.if-is_empty.true in
    pairs_end n r.frames.items r.seals.items line (ended_lines_of r.rest.now) total (split ∙ ap (λ (lines : List (List ℕ)). line ∷ lines) none) end r.invariant.0

pub returns-then-is_end : goal.returns-then-is_end
returns-then-is_end c =
    let r = c.loop-rest in
    let n = seal_len c.args.session.now in
    let line = c.take_line.result.0.now in
    let after = c.take_line.result.1.now in
    let total = pairs_at n 0 (ended_lines_of c.args.text.now) in
    let split = ended_lines_of-first r.rest.now line after (some_left r.rest.now c.is_empty.result c.is_empty.ensures c.loop-rest-test.true) c.take_line.ensures.line c.take_line.ensures.rest in
    let len : vec_len r.frames ≡ length r.frames.items = search rules in
    let end = ap (λ (k : ℕ). is_end k line) (sym (c.len.ensures ∙ len)) ∙ sym c.if-is_end.ensures in
    let more = ended_lines_of-first after (take (line_len after) after) (drop (line_len after) after) (some_left after c.is_empty-then-is_end.result c.is_empty-then-is_end.ensures c.if-is_empty.false) refl refl in
    let number = c.number_after.ensures ∙ ap line_after (c.len-then-is_end.ensures ∙ len) in
    pairs_past n r.frames.items r.seals.items line (take (line_len after) after) (ended_lines_of r.rest.now) (ended_lines_of (drop (line_len after) after)) total
    (split ∙ ap (λ (lines : List (List ℕ)). line ∷ lines) more) end r.invariant.0
    ∙ ap (λ (m : ℕ). Err (At (m + 1))) (sym number)

pub returns-in_err-frame : goal.returns-in_err-frame
returns-in_err-frame c =
    let r = c.loop-rest in
    let n = seal_len c.args.session.now in
    let line = c.take_line.result.0.now in
    let after = c.take_line.result.1.now in
    let total = pairs_at n 0 (ended_lines_of c.args.text.now) in
    let split = ended_lines_of-first r.rest.now line after (some_left r.rest.now c.is_empty.result c.is_empty.ensures c.loop-rest-test.true) c.take_line.ensures.line c.take_line.ensures.rest in
    let len : vec_len r.frames ≡ length r.frames.items = search rules in
    let end = ap (λ (k : ℕ). is_end k line) (sym (c.len.ensures ∙ len)) ∙ sym c.if-is_end.ensures in
    let p = err_from_is_err_and c.from_residual.result c.from_residual.ensures.1 in
    let said = ap (λ (k : ℕ). frame_at k line) (sym (c.len-in-loop-rest.ensures ∙ len)) ∙ c.in_err-frame.ensures.said in
    rw (p.1, p.2) (frame_fails n c.in_err-frame.field-0.0 r.frames.items r.seals.items line (ended_lines_of r.rest.now) (ended_lines_of after) total split end (said_fails is_memory _ _ said) r.invariant.0)

pub returns-in_err-seal : goal.returns-in_err-seal
returns-in_err-seal c =
    let r = c.loop-rest in
    let n = seal_len c.args.session.now in
    let line = c.take_line.result.0.now in
    let after = c.take_line.result.1.now in
    let total = pairs_at n 0 (ended_lines_of c.args.text.now) in
    let split = ended_lines_of-first r.rest.now line after (some_left r.rest.now c.is_empty.result c.is_empty.ensures c.loop-rest-test.true) c.take_line.ensures.line c.take_line.ensures.rest in
    let len : vec_len r.frames ≡ length r.frames.items = search rules in
    let end = ap (λ (k : ℕ). is_end k line) (sym (c.len.ensures ∙ len)) ∙ sym c.if-is_end.ensures in
    let p = err_from_is_err_and c.from_residual-in_err-seal.result c.from_residual-in_err-seal.ensures.1 in
    let said = ap (λ (k : ℕ). frame_at k line) (sym (c.len-in-loop-rest.ensures ∙ len)) ∙ c.in_ok-frame.ensures.said in
    let fails = rw (c.len-in-loop-rest-2.ensures ∙ len) at c.in_err-seal.ensures.said in
    rw (p.1, p.2) (seal_fails n c.in_err-seal.field-0.0 r.frames.items r.seals.items line (ended_lines_of r.rest.now) (ended_lines_of after) c.in_ok-frame.frame total split end said fails r.invariant.0)

pub loop-rest-smaller : goal.loop-rest-smaller
loop-rest-smaller c =
    let r = c.loop-rest in
    let some = some_left r.rest.now c.is_empty.result c.is_empty.ensures c.loop-rest-test.true in
    let one = c.take_line.ensures.shorter some in
    let two = c.in_ok-seal.ensures.short in
    omega (arith, one, two)

pub loop-rest-preserved : goal.loop-rest-preserved
loop-rest-preserved c =
    let r = c.loop-rest in
    let n = seal_len c.args.session.now in
    let line = c.take_line.result.0.now in
    let after = c.take_line.result.1.now in
    let total = pairs_at n 0 (ended_lines_of c.args.text.now) in
    let split = ended_lines_of-first r.rest.now line after (some_left r.rest.now c.is_empty.result c.is_empty.ensures c.loop-rest-test.true) c.take_line.ensures.line c.take_line.ensures.rest in
    let len : vec_len r.frames ≡ length r.frames.items = search rules in
    let end = ap (λ (k : ℕ). is_end k line) (sym (c.len.ensures ∙ len)) ∙ sym c.if-is_end.ensures in
    let said = ap (λ (k : ℕ). frame_at k line) (sym (c.len-in-loop-rest.ensures ∙ len)) ∙ c.in_ok-frame.ensures.said in
    let few = c.in_ok-frame.ensures.few in
    let count = c.len-in-loop-rest.ensures ∙ len in
    let seal = ap (λ (k : ℕ). seal_at n k (ended_lines_of after)) (sym (c.len-in-loop-rest-2.ensures ∙ len)) ∙ c.in_ok-seal.ensures.said in (
      rw (c.in_ok-push.ensures.items, c.in_ok-push-2.ensures.items) (pairs_more n r.frames.items r.seals.items line (ended_lines_of r.rest.now) (ended_lines_of after) (ended_lines_of c.in_ok-seal.after.now)
          c.in_ok-frame.frame c.in_ok-seal.seal total split end said (omega (arith, count, few)) seal r.invariant.0),
      c.next_seal.ensures.room ∙ r.invariant.1,
    )

pub returns : goal.returns
returns c =
    let r = c.loop-rest in
    let n = seal_len c.args.session.now in
    let len : vec_len r.frames ≡ length r.frames.items = search rules in
    let number = c.number_after-2.ensures ∙ ap line_after (c.len-2.ensures ∙ len) in
    pairs_missing n r.frames.items r.seals.items (ended_lines_of r.rest.now) (pairs_at n 0 (ended_lines_of c.args.text.now)) (none_left r.rest.now c.is_empty.result c.is_empty.ensures c.loop-rest-test.false) r.invariant.0
    ∙ ap (λ (m : ℕ). Err (At m)) (sym number)
