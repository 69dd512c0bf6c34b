-- Phases: in which phase a loop is.
use Rattle.std.specs.Prelude.{Bool, true, false, ◌||◌}
use Rattle.peer_rules.specs.declared.phases.Phase.{Phase}
use Rattle.peer_rules.specs.declared.phases.Phase.TheVariants.{Fresh, Logged, Running, KeepFault, PollFault}

-- no call was made
abbrev pub is_fresh : Phase → Bool
is_fresh Fresh = true
is_fresh Logged = false
is_fresh Running = false
is_fresh KeepFault = false
is_fresh PollFault = false

-- the log is begun, and the entries taken over are not all kept and synced yet
abbrev pub is_logged : Phase → Bool
is_logged Fresh = false
is_logged Logged = true
is_logged Running = false
is_logged KeepFault = false
is_logged PollFault = false

-- it plays
abbrev pub is_running : Phase → Bool
is_running Fresh = false
is_running Logged = false
is_running Running = true
is_running KeepFault = false
is_running PollFault = false

-- before it plays
abbrev pub is_early : Phase → Bool
is_early p = is_fresh p || is_logged p
