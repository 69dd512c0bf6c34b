use Rattle.std.proofs.Common.{◌≡◌, ◌≤◌, ◌-◌, drop, length}
use Rattle.seal_keys.specs.Seals.{seal_len}
use Rattle.sealed_files.specs.SealedFrames as R
use Rattle.sealed_files.proofs.reading.bad_in.Given as goal

abbrev pub invariant-loop-step : goal.invariant-loop-step
invariant-loop-step l = record {
  within : l.at ≤ length l.bytes;
  room : length l.seal ≡ seal_len l.session;
  same : R.bad_from l.session l.roots (length l.bytes) 0 l.bytes ≡ R.bad_from l.session l.roots (length l.bytes - l.step) l.at (drop l.at l.bytes);
}
