-- Moved: the move by which a log resolves a turn, by its stream up to the turn and behind it.
use Rattle.std.proofs.Common.{List, None, Some, arith, refl, sym, ℕ, ◌+◌, ◌<◌, ◌≤◌, ◌≡◌, slice_get, length}
use Rattle.definitions.specs.declared.logs.Entry.{Entry}
use Rattle.definitions.specs.World.{Game, players_of}
use Rattle.definitions.specs.Logs.{got_of, move_shown}
use Rattle.definitions.specs.Findings.{got_known}
use Rattle.grid_world.specs.Sessions.{IsSession}
use Rattle.grid_world.specs.declared.streams.Stream.{Stream}
use Rattle.frame_index.specs.declared.seen.Seen.{Seen}
use Rattle.frame_index.specs.Heads.{Stands, front_of}
use Rattle.frame_index.specs.Keeps.{Keeps}
use Rattle.frame_index.proofs.Come as C
use Rattle.auditor.specs.declared.turns.Resolved.{Resolved}
use Rattle.auditor.specs.Exhibits.{resolved_kept}
use Rattle.auditor.proofs.Turned.{turn_kept}

module _ (game : Game) (q t : ℕ) (h : List Entry) (before after : Stream) (is : IsSession game) (player : q < players_of game)
    (up : Stands game q (got_of q h) (front_of game t) before) (past : Stands game q (got_of q h) (front_of game (t + 1)) after) where
  pub unresolved : after.resolved ≤ t → None ≡ slice_get (got_known game q h).moves t
  unresolved le = sym (C.no_more game q h (front_of game (t + 1)) after is player past t refl le)

  pub resolved : (logs : List (List Entry)) (log : ℕ) (kept : List Seen) → Keeps game q t logs kept → slice_get logs log ≡ Some h → t < after.resolved →
      (r : Resolved) × (resolved_kept game q before.track log kept ≡ Some r) × (move_shown r.reveal ≡ slice_get (got_known game q h).moves t)
  resolved logs log kept keeps there lt =
      let more = C.resolves game q h (front_of game (t + 1)) after is player past in
      let within : t < length (got_known game q h).moves = omega (arith, lt, more) in
      let r = turn_kept game q t logs log h kept keeps there before.track (within, C.before game q h (front_of game t) before is player up t refl within) in
      (r.0, r.1, r.4)
