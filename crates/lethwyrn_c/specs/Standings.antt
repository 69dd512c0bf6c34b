-- Standings: what stands behind a handle.
use Rattle.std.specs.Prelude.{ℕ, List}
use Rattle.peer_core.specs.Views.{PeerState}
use Rattle.wire_frames.specs.Reading.{Reading}
use Rattle.lethwyrn_c.specs.Fronts.{front}

-- the peer, the reader of each link, how many entries of the log were handed out and how many of these are stored, and the place of the
-- own frame that is handed out next
pub record Standing : Type 0 where
  pub peer : PeerState
  pub links : List Reading
  pub given : ℕ
  pub stored : ℕ
  pub sent : ℕ

-- the bytes of the first n entries of the peer's log
abbrev pub log_front : PeerState → ℕ → List ℕ
log_front p n = front p.game.id p.me p.entries n
