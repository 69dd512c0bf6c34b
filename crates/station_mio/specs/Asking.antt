-- Asking: what the machine is asked for one socket, and what becomes of its answer.
use Rattle.std.specs.Prelude.{◌≡◌, ◌⊎◌, ℕ, ◌==◌, Bool, true, false, List, [], ◌∷◌, ◌++◌, Option, Some, None, Result, Ok, Err, if◌then◌else◌}
use Rattle.socket_station.specs.declared.answers.Addr.{Addr}
use Rattle.socket_station.specs.declared.answers.SocketRead.{SocketRead}
use Rattle.socket_station.specs.declared.answers.SocketRead.TheVariants as R
use Rattle.socket_station.specs.declared.answers.SocketWrite.{SocketWrite}
use Rattle.socket_station.specs.declared.answers.SocketWrite.TheVariants as W
use Rattle.machine_host.specs.declared.faults.HostFault.{HostFault}
use Rattle.machine_host.specs.declared.faults.HostFault.TheVariants as F
use Rattle.machine_host.specs.Asks.{Ask, Connected, Watched, Read, Wrote, Closed, Selected, Listened, ListenerWatched, bytes_of}
use Rattle.station_mio.specs.Rows.{Stand, Due, Dialled, Up, Lost, closings_of, without}

-- whether nothing can be done now
abbrev pub would_block : HostFault → Bool
would_block F.WouldBlock = true
would_block _ = false

-- what a read comes to: where no bytes came the other side has ended
abbrev pub read_of : Result ℕ HostFault → SocketRead
read_of (Ok count) = if count == 0 then R.Ended else R.Took count
read_of (Err fault) = if would_block fault then R.NotYet else R.Failed

-- what a write comes to
abbrev pub write_of : Result ℕ HostFault → SocketWrite
write_of (Ok count) = if count == 0 then W.Failed else W.Gave count
write_of (Err fault) = if would_block fault then W.NotYet else W.Failed

-- whether a socket is over after such an answer
abbrev pub is_read_over : SocketRead → Bool
is_read_over (R.Took count) = false
is_read_over R.NotYet = false
is_read_over R.Ended = true
is_read_over R.Failed = true

abbrev pub is_write_over : SocketWrite → Bool
is_write_over (W.Gave count) = false
is_write_over W.NotYet = false
is_write_over W.Failed = true

-- the machine read the socket of this number once, and the answer is what that comes to
abbrev pub ReadsStream : ℕ → (before after : List Ask) → SocketRead → (buf : List ℕ) → Type 0
ReadsStream n before after read buf =
    (answer : Result ℕ HostFault) × (after ≡ before ++ Read n (bytes_of answer buf) ∷ []) × (read ≡ read_of answer)

abbrev pub WritesStream : ℕ → (before after : List Ask) → SocketWrite → (bytes : List ℕ) → Type 0
WritesStream n before after write bytes =
    (answer : Result ℕ HostFault) × (after ≡ before ++ Wrote n bytes answer ∷ []) × (write ≡ write_of answer)

-- a read of a socket that stands so: one that isn't dialled yet has nothing, and one that is lost fails
abbrev pub ReadsStand : Stand → (before after : List Ask) → SocketRead → (buf : List ℕ) → Type 0
ReadsStand (Due n addr time) before after read buf = (after ≡ before) × (read ≡ R.NotYet)
ReadsStand (Dialled n time) before after read buf = ReadsStream n before after read buf
ReadsStand (Up n) before after read buf = ReadsStream n before after read buf
ReadsStand (Lost n) before after read buf = (after ≡ before) × (read ≡ R.Failed)

abbrev pub WritesStand : Stand → (before after : List Ask) → SocketWrite → (bytes : List ℕ) → Type 0
WritesStand (Due n addr time) before after write bytes = (after ≡ before) × (write ≡ W.NotYet)
WritesStand (Dialled n time) before after write bytes = WritesStream n before after write bytes
WritesStand (Up n) before after write bytes = WritesStream n before after write bytes
WritesStand (Lost n) before after write bytes = (after ≡ before) × (write ≡ W.Failed)

-- a read of a number: where no socket has it, it fails; a socket that is over is closed
abbrev pub Reads : Option Stand → (before after : List Ask) → SocketRead → (buf : List ℕ) → Type 0
Reads None before after read buf = (after ≡ before) × (read ≡ R.Failed)
Reads (Some s) before after read buf =
    (middle : List Ask) × ReadsStand s before middle read buf ×
    (after ≡ (if is_read_over read then middle ++ closings_of s else middle))

abbrev pub Writes : Option Stand → (before after : List Ask) → SocketWrite → (bytes : List ℕ) → Type 0
Writes None before after write bytes = (after ≡ before) × (write ≡ W.Failed)
Writes (Some s) before after write bytes =
    (middle : List Ask) × WritesStand s before middle write bytes ×
    (after ≡ (if is_write_over write then middle ++ closings_of s else middle))

-- the sockets after such an answer
abbrev pub after_read : SocketRead → ℕ → List Stand → List Stand
after_read read n stands = if is_read_over read then without n stands else stands

abbrev pub after_write : SocketWrite → ℕ → List Stand → List Stand
after_write write n stands = if is_write_over write then without n stands else stands

-- the object that readiness is asked of stood already, or was made, or couldn't be
abbrev pub Selects : (had has : Bool) → (before after : List Ask) → Type 0
Selects true has before after = (after ≡ before) × (has ≡ true)
Selects false true before after = after ≡ before ++ Selected None ∷ []
Selects false false before after = (fault : HostFault) × (after ≡ before ++ Selected (Some fault) ∷ [])

-- a new socket of this number is watched, or closed again where that fails
abbrev pub Enrolls : ℕ → (is_enrolled : Bool) → (before after : List Ask) → Type 0
Enrolls n true before after = after ≡ before ++ Watched n None ∷ []
Enrolls n false before after = (fault : HostFault) × (after ≡ before ++ Watched n (Some fault) ∷ Closed n ∷ [])

-- the socket of this number is connected to the address, or that fails
abbrev pub Connects : ℕ → Addr → (is_begun : Bool) → (before after : List Ask) → Type 0
Connects n addr true before after = Enrolls n true (before ++ Connected n addr None ∷ []) after
Connects n addr false before after =
    ((fault : HostFault) × (after ≡ before ++ Connected n addr (Some fault) ∷ []))
    ⊎ Enrolls n false (before ++ Connected n addr None ∷ []) after

-- it listens at the address, or that fails
abbrev pub ListensAt : Addr → (is_listening : Bool) → (before after : List Ask) → Type 0
ListensAt addr true before after = after ≡ before ++ Listened addr None ∷ ListenerWatched None ∷ []
ListensAt addr false before after =
    ((fault : HostFault) × (after ≡ before ++ Listened addr (Some fault) ∷ []))
    ⊎ ((fault : HostFault) × (after ≡ before ++ Listened addr None ∷ ListenerWatched (Some fault) ∷ []))
