use Rattle.std.proofs.Common.{length, ap, ◌∙◌}
use Rattle.text_lines.specs.Lines.{ended_lines_of}
use Rattle.grid_world.specs.Parts.{head_of}
use Rattle.grid_world.proofs.Kept.{ReadsParts, head_within, grid_kept, session_kept, length-sha256}
use Rattle.grid_world.proofs.reading.session_of.Goals as goal

pub walls_of-requires-clause-wide : goal.walls_of-requires-clause-wide
walls_of-requires-clause-wide c = (head_within (ended_lines_of c.args.text.now) (head_of c.in_ok-head.head) (ended_lines_of c.in_ok-head.rest.now) c.in_ok-head.ensures).wide

pub walls_of-requires-clause-high : goal.walls_of-requires-clause-high
walls_of-requires-clause-high c = (head_within (ended_lines_of c.args.text.now) (head_of c.in_ok-head.head) (ended_lines_of c.in_ok-head.rest.now) c.in_ok-head.ensures).high

pub walls_of-requires-clause-early : goal.walls_of-requires-clause-early
walls_of-requires-clause-early c =
    let few = (head_within (ended_lines_of c.args.text.now) (head_of c.in_ok-head.head) (ended_lines_of c.in_ok-head.rest.now) c.in_ok-head.ensures).early in
    rw (c.first_player_line.ensures, c.from.ensures) few

pub new-requires : goal.new-requires
new-requires c =
    let read : ReadsParts (ended_lines_of c.args.text.now) (head_of c.in_ok-head.head) c.in_ok-seats.seats.items c.in_ok-walls.walls.items = record {
      seats_from = ended_lines_of c.in_ok-head.rest.now;
      walls_from = ended_lines_of c.in_ok-seats.rest.now;
      head_is = c.in_ok-head.ensures;
      seats_are = c.in_ok-seats.ensures;
      walls_are = rw (← c.deref.ensures.value, ← c.first_player_line.ensures, ← c.from.ensures) c.in_ok-walls.ensures;
    } in
    grid_kept (ended_lines_of c.args.text.now) (head_of c.in_ok-head.head) c.in_ok-seats.seats.items c.in_ok-walls.walls.items read

pub new-requires-2 : goal.new-requires-2
new-requires-2 c =
    let read : ReadsParts (ended_lines_of c.args.text.now) (head_of c.in_ok-head.head) c.in_ok-seats.seats.items c.in_ok-walls.walls.items = record {
      seats_from = ended_lines_of c.in_ok-head.rest.now;
      walls_from = ended_lines_of c.in_ok-seats.rest.now;
      head_is = c.in_ok-head.ensures;
      seats_are = c.in_ok-seats.ensures;
      walls_are = rw (← c.deref.ensures.value, ← c.first_player_line.ensures, ← c.from.ensures) c.in_ok-walls.ensures;
    } in
    rw c.in_ok-grid.ensures (session_kept c.digest-id.result (ended_lines_of c.args.text.now) (head_of c.in_ok-head.head) c.in_ok-seats.seats.items c.in_ok-walls.walls.items (ap length c.digest-id.ensures ∙ length-sha256 c.args.text.now) read)
