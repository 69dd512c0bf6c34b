-- Licence: when a logger may wait, point by point.
use Rattle.std.specs.Prelude.{ℕ, Bool, true, false, not, ◌&&◌, ◌||◌, ◌==◌, IsTrue}
use Rattle.std.specs.List.{list_all}
use Rattle.definitions.specs.Lists.{is_empty}
use Rattle.socket_lines.specs.declared.line.Line.{Line}
use Rattle.loop_rules.specs.Licence.{is_read}
use Rattle.watch_rules.specs.declared.phases.WatchPhase.{WatchPhase}
use Rattle.watch_rules.specs.declared.phases.WatchPhase.TheVariants.{Fresh, Running, PollFault}
use Rattle.watch_rules.specs.Views.{View}
use Rattle.watch_rules.specs.Hearing.{room_on}

-- it listens, and no poll failed
abbrev pub is_running : WatchPhase → Bool
is_running Fresh = false
is_running Running = true
is_running PollFault = false

-- a rule or a limit asks to shut the socket: a first frame was no HELLO that names it, another
-- socket got its name, its player is closed, or it is one too many
abbrev pub asks_shut : View → Line → Bool
asks_shut v l = l.is_open && (l.is_wrong || (room_on v l == 0))

-- Reading. Each open socket was read until nothing was there, since its opening and since the last
-- poll that listed it.
abbrev pub all_is_read : View → Bool
all_is_read v = list_all is_read v.sockets.lines

-- Giving. On an open socket all that is due was given, or the last write was refused since the
-- last poll that listed the socket.
abbrev pub is_given : Line → Bool
is_given l = not l.is_open || l.is_blocked || is_empty l.unsent

-- the same of each socket
abbrev pub all_is_given : View → Bool
all_is_given v = list_all is_given v.sockets.lines

-- Shutting. No socket is open that a rule or a limit asks to shut.
abbrev pub all_is_shut : View → Bool
all_is_shut v = list_all (λ l. not (asks_shut v l)) v.sockets.lines

-- a poll is licensed: it listens, and nothing is left to be read, given or shut
abbrev pub is_licensed : View → Bool
is_licensed v = is_running v.phase && all_is_read v && all_is_given v && all_is_shut v

-- the same as a fact
abbrev pub IsLicensed : View → Type 0
IsLicensed v = IsTrue (is_licensed v)
