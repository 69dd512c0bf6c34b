use Rattle.std.proofs.lemmas.Result.{err_from_is_err_and}
use Rattle.text_lines.specs.Lines.{ended_lines_of}
use Rattle.text_lines.proofs.Answers.{said_fails}
use Rattle.grid_world.specs.Answers.{is_memory}
use Rattle.grid_world.specs.Reading.{seats_at}
use Rattle.grid_world.specs.Parts.{head_of}
use Rattle.grid_world.proofs.Loops.{seats_more, seats_fail, seats_all}
use Rattle.grid_world.proofs.reading.seats_of.Goals as goal

pub returns-in_err-seat : goal.returns-in_err-seat
returns-in_err-seat c =
    let p = err_from_is_err_and c.from_residual.result c.from_residual.ensures.1 in
    rw (p.1, p.2) (seats_fail (head_of c.args.head.now) c.in_err-seat.field-0.0 c.loop-player.seats.items c.args.head.now.players c.loop-player.player (ended_lines_of c.loop-player.rest.now) (seats_at (head_of c.args.head.now) c.args.head.now.players 0 (ended_lines_of c.args.text.now)) c.loop-player-test.true (said_fails is_memory _ _ c.in_err-seat.ensures) c.loop-player.invariant)

pub loop-player-preserved : goal.loop-player-preserved
loop-player-preserved c =
    rw c.in_ok-push.ensures.items (seats_more (head_of c.args.head.now) c.loop-player.seats.items c.args.head.now.players c.loop-player.player (ended_lines_of c.loop-player.rest.now) c.in_ok-seat.seat (ended_lines_of c.in_ok-seat.after.now) (seats_at (head_of c.args.head.now) c.args.head.now.players 0 (ended_lines_of c.args.text.now)) c.loop-player-test.true c.in_ok-seat.ensures c.loop-player.invariant)

pub returns : goal.returns
returns c = seats_all (head_of c.args.head.now) c.loop-player.seats.items c.args.head.now.players c.loop-player.player (ended_lines_of c.loop-player.rest.now) (seats_at (head_of c.args.head.now) c.args.head.now.players 0 (ended_lines_of c.args.text.now)) c.loop-player-test.false c.loop-player.invariant
