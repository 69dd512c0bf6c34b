use Rattle.std.proofs.Common.{◌≡◌, ◌∙◌, ◌<◌, arith, get_or, replicate, rules, sym}
use Rattle.std.proofs.lemmas.List.{ext_get_or, get_or-replicate, length-replicate}
use Rattle.wire_frames.specs.Reading.{at_start}
use Rattle.drive_command.specs.declared.readers.TheConstants.{READERS}
use Rattle.drive_command.proofs.readers.Readers.new.Goals as goal

pub returns : goal.returns
returns c =
    let long = c.from_fn-readers.ensures.items.long in
    ext_get_or at_start _ (replicate READERS at_start) (long ∙ sym (length-replicate READERS at_start)) (λ i lt.
    let within : i < READERS = omega (arith, long, lt) in
    let called = c.from_fn-readers.ensures.items.at i at_start within in
    let fresh : get_or _ i at_start ≡ at_start = search rules in
    fresh ∙ sym (get_or-replicate READERS i at_start at_start within))
