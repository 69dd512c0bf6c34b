use Rattle.std.proofs.Common.{ap, sym, ◌∙◌}
use Rattle.socket_lines.specs.Lines.{player_of}
use Rattle.socket_table.proofs.Changed.{line_seen}
use Rattle.socket_table.proofs.Asked.{desk_from}
use Rattle.socket_table.proofs.table.Table.desk_seat.Goals as goal

pub returns-in-Some : goal.returns-in-Some
returns-in-Some c l g =
    let x = line_seen _ _ c.args.place c.index.result.now l c.self.view_is c.index.ensures g in
    desk_from _ _ _ _ c.deref.result.now c.in-Some.player (player_of l) c.seat_index.result c.self.view_is c.self.invariant c.deref.ensures.value c.seat_index.ensures
    (ap player_of (sym x) ∙ sym c.player.ensures ∙ c.in-Some.is)
