use Rattle.std.proofs.Common.{◌≡◌, ◌/◌, ◌^◌}
use Rattle.sha2.specs.Sha256.{sha256}
use Rattle.seal_keys.specs.Seals as S
use Rattle.seal_keys.proofs.checking.path_digest.Given as goal

abbrev pub invariant-loop-h : goal.invariant-loop-h
invariant-loop-h l = record { own : l.own ≡ sha256 (S.seal_path l.message l.seal l.place l.h); index : l.index ≡ l.place / 2 ^ l.h }
