-- Opening: sockets that a poll lists.
use Rattle.std.specs.Prelude.{◌≡◌, false, List, [], ◌∷◌}
use Rattle.socket_station.specs.declared.answers.Ready.{Ready}
use Rattle.socket_station.specs.declared.answers.Ready.TheVariants.{Opened, Socket as Seems}
use Rattle.socket_station.specs.Standings.{opens}
use Rattle.socket_lines.specs.declared.line.Line.{Line}
use Rattle.loop_rules.specs.Told.{IsNotIn}

-- the sockets that a list opens differ, and none of them is a line's
abbrev pub AreNewTo : List Line → List Ready → Type 0
AreNewTo lines [] = Unit {0}
AreNewTo lines (Opened s ∷ list) = IsNotIn s lines × (opens list s ≡ false) × AreNewTo lines list
AreNewTo lines (Seems s ∷ list) = AreNewTo lines list
