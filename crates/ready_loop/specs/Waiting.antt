-- Waiting: whether a loop has something to wait for.
use Rattle.std.specs.Prelude.{Bool, not, ◌||◌}
use Rattle.definitions.specs.Lists.{is_empty}
use Rattle.definitions.specs.Honest.{made_count}
use Rattle.definitions.specs.Needs.{needs}
use Rattle.loop_rules.specs.Licence.{bytes_wait}
use Rattle.ready_loop.specs.States.{LoopState}

-- a frame of another player is missed, or own bytes wait
abbrev pub waits_for : LoopState → Bool
waits_for l = not (is_empty (needs l.peer.game l.peer.me l.peer.entries)) || bytes_wait (made_count l.peer.entries) l.table
