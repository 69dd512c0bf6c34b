use Rattle.std.proofs.Common.{List, ℕ, ◌∷◌, None, refl, sym, ap, ◌∙◌, take, drop}
use Rattle.std.proofs.lemmas.Result.{err_from_is_err_and}
use Rattle.text_lines.specs.Lines.{ended_lines_of, line_len}
use Rattle.text_lines.proofs.Answers.{said_fails}
use Rattle.grid_world.specs.Answers.{is_memory}
use Rattle.grid_world.specs.Reading.{walls_at}
use Rattle.grid_world.specs.Parts.{bare}
use Rattle.grid_world.specs.Sessions.{starts_of}
use Rattle.text_lines.proofs.FirstLine.{ended_lines_of-first, some_left, none_left}
use Rattle.grid_world.proofs.Loops.{walls_more, walls_fail, walls_end, walls_past, walls_missing}
use Rattle.grid_world.proofs.reading.walls_of.Goals as goal

pub returns-then-is_empty : goal.returns-then-is_empty
returns-then-is_empty c =
    let r = c.loop-rest in
    let line = c.take_line.result.0.now in
    let after = c.take_line.result.1.now in
    let split = ended_lines_of-first r.rest.now line after (some_left r.rest.now c.is_empty.result c.is_empty.ensures c.loop-rest-test.true) c.take_line.ensures.line c.take_line.ensures.rest in
    let none = none_left after c.is_empty-then-is_last_line.result c.is_empty-then-is_last_line.ensures c.if-is_empty.true in
    walls_end (bare c.args.sides) (starts_of c.args.seats.now) r.walls.items r.before c.args.first r.n line (ended_lines_of r.rest.now) (walls_at (bare c.args.sides) (starts_of c.args.seats.now) (ended_lines_of c.args.text.now) None c.args.first)
    (split ∙ ap (λ (lines : List (List ℕ)). line ∷ lines) none) (sym c.is_last_line.ensures ∙ c.if-is_last_line.true) r.invariant

pub returns-then-is_last_line : goal.returns-then-is_last_line
returns-then-is_last_line c =
    let r = c.loop-rest in
    let line = c.take_line.result.0.now in
    let after = c.take_line.result.1.now in
    let split = ended_lines_of-first r.rest.now line after (some_left r.rest.now c.is_empty.result c.is_empty.ensures c.loop-rest-test.true) c.take_line.ensures.line c.take_line.ensures.rest in
    let more = ended_lines_of-first after (take (line_len after) after) (drop (line_len after) after) (some_left after c.is_empty-then-is_last_line.result c.is_empty-then-is_last_line.ensures c.if-is_empty.false) refl refl in
    rw c.fault.ensures (walls_past (bare c.args.sides) (starts_of c.args.seats.now) r.walls.items r.before c.args.first r.n line (take (line_len after) after) (ended_lines_of r.rest.now) (ended_lines_of (drop (line_len after) after)) (walls_at (bare c.args.sides) (starts_of c.args.seats.now) (ended_lines_of c.args.text.now) None c.args.first)
    (split ∙ ap (λ (lines : List (List ℕ)). line ∷ lines) more) (sym c.is_last_line.ensures ∙ c.if-is_last_line.true) r.invariant)

pub returns-in_err-wall : goal.returns-in_err-wall
returns-in_err-wall c =
    let r = c.loop-rest in
    let line = c.take_line.result.0.now in
    let after = c.take_line.result.1.now in
    let split = ended_lines_of-first r.rest.now line after (some_left r.rest.now c.is_empty.result c.is_empty.ensures c.loop-rest-test.true) c.take_line.ensures.line c.take_line.ensures.rest in
    let p = err_from_is_err_and c.from_residual.result c.from_residual.ensures.1 in
    rw (p.1, p.2) (walls_fail (bare c.args.sides) c.in_err-wall.field-0.0 (starts_of c.args.seats.now) r.walls.items r.before c.args.first r.n line (ended_lines_of r.rest.now) (ended_lines_of after) (walls_at (bare c.args.sides) (starts_of c.args.seats.now) (ended_lines_of c.args.text.now) None c.args.first)
    split (sym c.is_last_line.ensures ∙ c.if-is_last_line.false) (said_fails is_memory _ _ c.in_err-wall.ensures) r.invariant)

pub loop-rest-preserved : goal.loop-rest-preserved
loop-rest-preserved c =
    let r = c.loop-rest in
    let line = c.take_line.result.0.now in
    let after = c.take_line.result.1.now in
    let split = ended_lines_of-first r.rest.now line after (some_left r.rest.now c.is_empty.result c.is_empty.ensures c.loop-rest-test.true) c.take_line.ensures.line c.take_line.ensures.rest in
    rw c.in_ok-push.ensures.items (walls_more (bare c.args.sides) (starts_of c.args.seats.now) r.walls.items r.before c.args.first r.n line (ended_lines_of r.rest.now) (ended_lines_of after) c.in_ok-wall.wall (walls_at (bare c.args.sides) (starts_of c.args.seats.now) (ended_lines_of c.args.text.now) None c.args.first)
    c.requires.wide c.requires.high split (sym c.is_last_line.ensures ∙ c.if-is_last_line.false) c.in_ok-wall.ensures r.invariant)

pub returns : goal.returns
returns c =
    let r = c.loop-rest in
    rw c.fault-2.ensures (walls_missing (bare c.args.sides) (starts_of c.args.seats.now) r.walls.items r.before c.args.first r.n (ended_lines_of r.rest.now) (walls_at (bare c.args.sides) (starts_of c.args.seats.now) (ended_lines_of c.args.text.now) None c.args.first)
    (none_left r.rest.now c.is_empty.result c.is_empty.ensures c.loop-rest-test.false) r.invariant)
