use Rattle.std.proofs.Common.{◌≡◌, drop, length}
use Rattle.definitions.specs.Logs as L
use Rattle.line_io.specs.Texts.{Underway}
use Rattle.seal_keys.specs.Seals.{seal_len}
use Rattle.key_commands.specs.Seal.{sealed_frames}
use Rattle.key_commands.specs.Unused.{IsUnusedFrom}
use Rattle.key_commands.proofs.sealing.put_made.Given as goal

abbrev pub invariant-loop-place : goal.invariant-loop-place
invariant-loop-place g l = record {
  game : l.keys.game ≡ l.peer.game;
  player : l.keys.player ≡ l.peer.me;
  seed : l.keys.seed ≡ l.initial.keys.seed;
  unused : IsUnusedFrom l.keys.sealed l.place;
  room : length l.seal ≡ seal_len l.peer.game;
  written : Underway (g.O.Sink.state l.initial.out) (g.O.Sink.state l.out) (sealed_frames l.peer.game l.initial.keys.seed (L.made l.peer.entries))
      (sealed_frames l.peer.game l.initial.keys.seed (drop l.place (L.made l.peer.entries)));
}
