-- Steps: what the calls of a loop do to what it knows.
use Rattle.std.specs.Prelude.{ℕ, ◌+◌, Bool, true, false, List, [], Option, Some, None, take, slice_get}
use Rattle.definitions.specs.declared.frames.TurnFrame.{TurnFrame}
use Rattle.definitions.specs.declared.logs.Entry.{Entry}
use Rattle.session_log.specs.Writing.{Writing, written}
use Rattle.socket_station.specs.declared.answers.Did.{Did}
use Rattle.socket_station.specs.declared.answers.Did.TheVariants as D
use Rattle.socket_station.specs.declared.answers.SocketRead.{SocketRead}
use Rattle.socket_station.specs.declared.answers.SocketRead.TheVariants as R
use Rattle.socket_station.specs.declared.answers.SocketWrite.{SocketWrite}
use Rattle.socket_station.specs.declared.answers.SocketWrite.TheVariants as O
use Rattle.socket_lines.specs.Lines.{closed, quieted, blocked}
use Rattle.socket_lines.specs.Giving.{Desk, Speaker}
use Rattle.peer_rules.specs.declared.phases.Phase.{Phase}
use Rattle.peer_rules.specs.declared.phases.Phase.TheVariants.{KeepFault}
use Rattle.loop_rules.specs.Tables.{Table, at_line}
use Rattle.loop_rules.specs.Hearing.{Hearer, took_on}
use Rattle.loop_rules.specs.After.{gave_with}
use Rattle.ready_loop.specs.States.{LoopState, writer_of}

-- whether a call did what it was asked
abbrev pub did_by : Bool → Did
did_by true = D.Done
did_by false = D.Failed

abbrev pub with_table : Table → LoopState → LoopState
with_table t l = record l { table = t }

abbrev pub in_phase : Phase → LoopState → LoopState
in_phase phase l = record l { phase = phase }

-- what is written for an entry, if there is one
abbrev pub written_for : Writing → Option Entry → List ℕ
written_for w None = []
written_for w (Some e) = written w e

-- what is written for the first entry that is not kept
abbrev pub next_bytes : LoopState → List ℕ
next_bytes l = written_for (writer_of l) (slice_get l.peer.entries l.kept)

-- the first entry that was not kept is, or keeping it failed
abbrev pub kept_next : (done : Bool) → LoopState → LoopState
kept_next true l = record l { kept = l.kept + 1 }
kept_next false l = in_phase KeepFault l

-- all that is kept is synced, or the sync failed
abbrev pub synced_all : (done : Bool) → LoopState → LoopState
synced_all true l = record l { synced = l.kept }
synced_all false l = in_phase KeepFault l

-- a read of the socket answered this
abbrev pub read_on : Hearer → (s : ℕ) → SocketRead → (buf : List ℕ) → Table → Table
read_on h s (R.Took count) buf t = took_on h s (take count buf) t
read_on h s R.NotYet buf t = at_line s quieted t
read_on h s R.Ended buf t = at_line s closed t
read_on h s R.Failed buf t = at_line s closed t

-- a write on the socket, at the desk of its player, answered this
abbrev pub wrote_on : Speaker → (own : Option TurnFrame) → (s : ℕ) → SocketWrite → Option Desk → Table → Table
wrote_on k own s (O.Gave count) d t = gave_with k own count t d
wrote_on k own s O.NotYet d t = at_line s blocked t
wrote_on k own s O.Failed d t = at_line s closed t
