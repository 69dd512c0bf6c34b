use Rattle.std.proofs.Common.{ap, sym, ◌∙◌}
use Rattle.socket_lines.specs.Seats as S
use Rattle.loop_rules.specs.Tables.{at_seat}
use Rattle.socket_table.proofs.Named.{seat_seen}
use Rattle.socket_table.proofs.Heard.{obeyed_it, passed_it}
use Rattle.socket_table.proofs.table.Table.obey.Goals as goal

pub returns-then-may_want : goal.returns-then-may_want
returns-then-may_want c =
    obeyed_it c.obey_seat.new.self c.args.self.now c.args.socket c.args.player c.args.want c.index.result.now
    (seat_seen _ _ _ _ c.args.seat c.args.player c.index.result.now c.self.view_is c.self.invariant c.requires.seat c.index.ensures)
    (sym c.may_want.ensures ∙ c.if-may_want.true) (c.obey_seat.ensures ∙ ap (at_seat c.args.player S.obeys) c.move_line.ensures)

pub returns-else-may_want : goal.returns-else-may_want
returns-else-may_want c =
    passed_it c.args.self.now c.args.socket c.args.player c.args.want c.index.result.now
    (seat_seen _ _ _ _ c.args.seat c.args.player c.index.result.now c.self.view_is c.self.invariant c.requires.seat c.index.ensures)
    (sym c.may_want.ensures ∙ c.if-may_want.false)
