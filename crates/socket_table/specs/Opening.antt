-- Opening: room for a socket that is dialled.
use Rattle.std.specs.Prelude.{◌<◌, ◌+◌, length}
use Rattle.std.specs.List.{count_by}
use Rattle.loop_rules.specs.Tables.{Table}
use Rattle.socket_table.specs.declared.table.TheConstants.{MOST_LINES}

-- one more line has room, which was dialled for one more player
abbrev pub HasDialRoom : Table → Type 0
HasDialRoom t = length t.lines < MOST_LINES + count_by (λ c. c.is_dialled) t.seats
