use Rattle.std.proofs.Common.{◌≡◌, ◌+◌, ◌<◌, [], ◌∙◌, ap, arith, drop, length}
use Rattle.std.proofs.lemmas.Grind.{common_steps}
use Rattle.line_io.proofs.Writing.{puts_cut, underway_cut, underway_end, underway_more}
use Rattle.make_command.specs.Make.{player_lines}
use Rattle.make_command.proofs.Printed.{lines_next}
use Rattle.make_command.proofs.making.put_players.Goals as goal

pub returns-in_err-put : goal.returns-in_err-put
returns-in_err-put g c =
    let i = c.lines.line-index in
    let lines = c.args.lines.now in
    let lt : i < length lines = grind (arith, common_steps) in
    puts_cut _ _ _ c.from_residual.result c.from_residual.ensures.0
    (underway_cut _ _ _ _ _ c.as_slice.result.now (player_lines (c.lines.player + 1) (drop (i + 1) lines)) c.lines.invariant.rest
    (lines_next c.lines.player lines i c.as_slice.result.now lt (c.as_slice.ensures.value ∙ c.world_line.ensures)) c.in_err-put.ensures)

pub lines-preserved : goal.lines-preserved
lines-preserved g c =
    let i = c.lines.line-index in
    let lines = c.args.lines.now in
    let lt : i < length lines = grind (arith, common_steps) in
    let at = c.lines.invariant.player in
    record {
      player = omega (arith, at);
      rest = underway_more _ _ _ _ _ c.as_slice.result.now (player_lines (c.lines.player + 1) (drop (i + 1) lines)) c.lines.invariant.rest
          (lines_next c.lines.player lines i c.as_slice.result.now lt (c.as_slice.ensures.value ∙ c.world_line.ensures)) c.in_ok-put.ensures;
    }

pub returns : goal.returns
returns g c =
    let none : drop c.lines.line-index c.args.lines.now ≡ [] = grind (arith, common_steps) in
    underway_end _ _ _ _ c.lines.invariant.rest (ap (player_lines c.lines.player) none)
