use Rattle.std.proofs.Common.{◌≡◌, List, ℕ, ◌∷◌, Err, refl, sym, ap, ◌∙◌, arith, rules, take, drop, ◌+◌, length, vec_len}
use Rattle.std.proofs.lemmas.Result.{err_from_is_err_and}
use Rattle.text_lines.specs.Lines.{ended_lines_of, line_len}
use Rattle.text_lines.proofs.FirstLine.{ended_lines_of-first, some_left, none_left}
use Rattle.text_lines.proofs.Answers.{said_fails}
use Rattle.text_fields.specs.declared.fault.TextFault.TheVariants.{At}
use Rattle.text_fields.specs.Faults.{is_memory}
use Rattle.evidence.specs.Reading.{is_end, frame_at, frames_at, line_behind}
use Rattle.evidence.proofs.Loops.{frames_more, frames_fail, frames_end, frames_past, frames_missing}
use Rattle.evidence.proofs.reading.frames_of.Goals as goal

pub returns-then-is_empty : goal.returns-then-is_empty
returns-then-is_empty c =
    let r = c.loop-rest in
    let line = c.take_line.result.0.now in
    let after = c.take_line.result.1.now in
    let total = frames_at 0 (ended_lines_of c.args.text.now) in
    let split = ended_lines_of-first r.rest.now line after (some_left r.rest.now c.is_empty.result c.is_empty.ensures c.loop-rest-test.true) c.take_line.ensures.line c.take_line.ensures.rest in
    let len : vec_len r.frames ≡ length r.frames.items = search rules in
    let end = ap (λ (n : ℕ). is_end n line) (sym (c.len.ensures ∙ len)) ∙ sym c.if-is_end.ensures in
    let none = none_left after c.is_empty-then-is_end.result c.is_empty-then-is_end.ensures c.if-is_empty.true in
    frames_end r.frames.items line (ended_lines_of r.rest.now) total (split ∙ ap (λ (lines : List (List ℕ)). line ∷ lines) none) end r.invariant

pub returns-then-is_end : goal.returns-then-is_end
returns-then-is_end c =
    let r = c.loop-rest in
    let line = c.take_line.result.0.now in
    let after = c.take_line.result.1.now in
    let total = frames_at 0 (ended_lines_of c.args.text.now) in
    let split = ended_lines_of-first r.rest.now line after (some_left r.rest.now c.is_empty.result c.is_empty.ensures c.loop-rest-test.true) c.take_line.ensures.line c.take_line.ensures.rest in
    let len : vec_len r.frames ≡ length r.frames.items = search rules in
    let end = ap (λ (n : ℕ). is_end n line) (sym (c.len.ensures ∙ len)) ∙ sym c.if-is_end.ensures in
    let more = ended_lines_of-first after (take (line_len after) after) (drop (line_len after) after) (some_left after c.is_empty-then-is_end.result c.is_empty-then-is_end.ensures c.if-is_empty.false) refl refl in
    let number = c.number_behind.ensures ∙ ap line_behind (c.len-then-is_end.ensures ∙ len) in
    frames_past r.frames.items line (take (line_len after) after) (ended_lines_of r.rest.now) (ended_lines_of (drop (line_len after) after)) total (split ∙ ap (λ (lines : List (List ℕ)). line ∷ lines) more) end r.invariant
    ∙ ap (λ (n : ℕ). Err (At (n + 1))) (sym number)

pub returns-in_err-frame : goal.returns-in_err-frame
returns-in_err-frame c =
    let r = c.loop-rest in
    let line = c.take_line.result.0.now in
    let after = c.take_line.result.1.now in
    let total = frames_at 0 (ended_lines_of c.args.text.now) in
    let split = ended_lines_of-first r.rest.now line after (some_left r.rest.now c.is_empty.result c.is_empty.ensures c.loop-rest-test.true) c.take_line.ensures.line c.take_line.ensures.rest in
    let len : vec_len r.frames ≡ length r.frames.items = search rules in
    let end = ap (λ (n : ℕ). is_end n line) (sym (c.len.ensures ∙ len)) ∙ sym c.if-is_end.ensures in
    let p = err_from_is_err_and c.from_residual.result c.from_residual.ensures.1 in
    let said = ap (λ (n : ℕ). frame_at n line) (sym (c.len-in-loop-rest.ensures ∙ len)) ∙ c.in_err-frame.ensures.said in
    rw (p.1, p.2) (frames_fail c.in_err-frame.field-0.0 r.frames.items line (ended_lines_of r.rest.now) (ended_lines_of after) total split end (said_fails is_memory _ _ said) r.invariant)

pub loop-rest-preserved : goal.loop-rest-preserved
loop-rest-preserved c =
    let r = c.loop-rest in
    let line = c.take_line.result.0.now in
    let after = c.take_line.result.1.now in
    let total = frames_at 0 (ended_lines_of c.args.text.now) in
    let split = ended_lines_of-first r.rest.now line after (some_left r.rest.now c.is_empty.result c.is_empty.ensures c.loop-rest-test.true) c.take_line.ensures.line c.take_line.ensures.rest in
    let len : vec_len r.frames ≡ length r.frames.items = search rules in
    let end = ap (λ (n : ℕ). is_end n line) (sym (c.len.ensures ∙ len)) ∙ sym c.if-is_end.ensures in
    let said = ap (λ (n : ℕ). frame_at n line) (sym (c.len-in-loop-rest.ensures ∙ len)) ∙ c.in_ok-frame.ensures.said in
    let few = c.in_ok-frame.ensures.few in
    let count = c.len-in-loop-rest.ensures ∙ len in
    rw c.in_ok-push.ensures.items (frames_more r.frames.items line (ended_lines_of r.rest.now) (ended_lines_of after) c.in_ok-frame.frame total split end said (omega (arith, count, few)) r.invariant)

pub returns : goal.returns
returns c =
    let r = c.loop-rest in
    let len : vec_len r.frames ≡ length r.frames.items = search rules in
    let number = c.number_behind-2.ensures ∙ ap line_behind (c.len-2.ensures ∙ len) in
    frames_missing r.frames.items (ended_lines_of r.rest.now) (frames_at 0 (ended_lines_of c.args.text.now)) (none_left r.rest.now c.is_empty.result c.is_empty.ensures c.loop-rest-test.false) r.invariant ∙ ap (λ (n : ℕ). Err (At n)) (sym number)
