use Rattle.std.proofs.Common.{take, drop, arith, refl}
use Rattle.std.proofs.lemmas.Result.{err_from_is_err_and}
use Rattle.text_lines.specs.Lines.{ended_lines_of, line_len}
use Rattle.text_lines.proofs.FirstLine.{ended_lines_of-first, none_left, some_left}
use Rattle.pilots.specs.Scripts.{script_at}
use Rattle.pilots.proofs.Scripts.{moves_all, moves_fail, moves_more, moves_past}
use Rattle.pilots.proofs.moves.moves_of.Goals as goal

pub returns-in_err-mv : goal.returns-in_err-mv
returns-in_err-mv c =
    let l = c.loop-turn in
    let p = err_from_is_err_and c.from_residual.result c.from_residual.ensures.1 in
    rw (p.1, p.2) (moves_fail c.in_err-mv.field-0.0 l.moves.items c.args.turns l.turn (ended_lines_of l.rest.now) (script_at c.args.turns c.args.text.now) c.loop-turn-test.true c.in_err-mv.ensures l.invariant)

pub loop-turn-preserved : goal.loop-turn-preserved
loop-turn-preserved c =
    let l = c.loop-turn in
    rw c.in_ok-push.ensures.items (moves_more l.moves.items c.args.turns l.turn (ended_lines_of l.rest.now) c.in_ok-mv.mv (ended_lines_of c.in_ok-mv.after.now) (script_at c.args.turns c.args.text.now) c.loop-turn-test.true c.in_ok-mv.ensures l.invariant)

pub returns-then-not-is_empty : goal.returns-then-not-is_empty
returns-then-not-is_empty c =
    let l = c.loop-turn in
    let rest = l.rest.now in
    let line = take (line_len rest) rest in
    let more = ended_lines_of-first rest line (drop (line_len rest) rest) (some_left rest c.is_empty.result c.is_empty.ensures c.if-not-is_empty.true) refl refl in
    moves_past l.moves.items c.args.turns l.turn line (ended_lines_of rest) (ended_lines_of (drop (line_len rest) rest)) (script_at c.args.turns c.args.text.now) (omega arith) more l.invariant

pub returns : goal.returns
returns c =
    let l = c.loop-turn in
    moves_all l.moves.items c.args.turns l.turn (ended_lines_of l.rest.now) (script_at c.args.turns c.args.text.now) c.loop-turn-test.false (none_left l.rest.now c.is_empty.result c.is_empty.ensures c.if-not-is_empty.false) l.invariant
