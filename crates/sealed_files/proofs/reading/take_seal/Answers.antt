use Rattle.std.proofs.Common.{◌+◌, ◌<◌, ap, arith, sym, length}
use Rattle.seal_keys.specs.Seals.{seal_len}
use Rattle.sealed_files.specs.SealedFrames.{frame_len}
use Rattle.sealed_files.proofs.Told.{too_short}
use Rattle.sealed_files.proofs.reading.take_seal.Goals as goal

pub returns-then-bytes-at-clause-value : goal.returns-then-bytes-at-clause-value
returns-then-bytes-at-clause-value c =
    let size = ap length c.bytes-size.ensures in
    let few : length c.args.bytes.now < frame_len c.args.bytes.now + seal_len c.args.session.now = omega (arith, c.frame_len-at.ensures, c.requires) in
    sym (too_short c.args.session.now c.args.roots.now c.args.bytes.now c.args.frame.now few)
