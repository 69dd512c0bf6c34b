use Rattle.std.proofs.Common.{◌≡◌, ◌+◌, ◌/◌, ◌^◌}
use Rattle.sha2.specs.Sha256.{sha256}
use Rattle.definitions.specs.Answers.{place_of}
use Rattle.seal_keys.specs.Departures as D
use Rattle.seal_keys.specs.Seals as S
use Rattle.seal_keys.proofs.keys.SealKeys.departure.Given as goal

abbrev pub invariant-loop-h : goal.invariant-loop-h
invariant-loop-h l = record {
  own : l.own ≡ sha256 (S.seal_path (S.message l.self.game l.frame) l.seal (place_of l.self.game l.frame) l.h);
  index : l.index ≡ place_of l.self.game l.frame / 2 ^ l.h;
  last : l.last ≡ D.last_below (D.departs_at l.self.game l.self.seed l.frame l.seal) (l.h + 1);
}
