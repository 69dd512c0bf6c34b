-- Fair: what a run over sockets shows of the protocol.
use Rattle.std.specs.Prelude.{◌≡◌, ℕ, List, ◌∷◌, ◌++◌, Some, slice_get}
use Rattle.definitions.specs.declared.world.Move.{Move}
use Rattle.definitions.specs.declared.openings.Nonce.{Nonce}
use Rattle.definitions.specs.declared.frames.TurnFrame.TheVariants.{Reveal}
use Rattle.socket_station.specs.Items.{Item, Gave}
use Rattle.socket_lines.specs.declared.line.Line.{Line}
use Rattle.peer_core.specs.Views.{PeerState}
use Rattle.rosters.specs.Rosters.{Neighbours}
use Rattle.loop_rules.specs.Tables.{line_of}
use Rattle.loop_rules.specs.Views.{safe_frames}
use Rattle.loop_rules.specs.After.{view_of}
use Rattle.loop_rules.specs.Histories.{IsHistory}
use Rattle.loop_rules.specs.Laws.{GoesOn, IsFair}
use Rattle.definition_laws.specs.FairPlay.{IsFairPlay}
use Rattle.ready_loop.specs.Beginning.{given_by}

-- What the station of a match told, from its first item on, shows fair play.
pub record IsFairMatch (p : PeerState) (r : Neighbours) (items : List Item) : Type 0 where
  -- each item is one that the rules of the loop allow after those before it
  pub history : IsHistory (given_by p r) items
  -- the bytes that are given go on with what is left of a frame, or begin a greeting, a want, or an own frame that was kept and synced before
  pub given : (before more : List Item) (socket : ℕ) (bytes : List ℕ) → items ≡ before ++ Gave socket bytes ∷ more →
      (l : Line) × (line_of (view_of (given_by p r) before).table socket ≡ Some l) × GoesOn (safe_frames (view_of (given_by p r) before)) l bytes
  -- an own reveal may be given only after each commitment that it needs was received: that of each
  -- other player whose dilated sphere met the own one
  pub received : (before more : List Item) (place t : ℕ) (m : Move) (n : Nonce) → items ≡ before ++ more →
      slice_get (safe_frames (view_of (given_by p r) before)) place ≡ Some (Reveal p.me t m n) → IsFair (given_by p r) before t m n
  -- the log that is kept is one of fair play: each move accepted of another player opens the commitment held
  pub log : IsFairPlay p.game p.me (view_of (given_by p r) items).kept
