use Rattle.std.proofs.Common.{List, get_or, ap, ◌∙◌, arith}
use Rattle.plain_lemmas.proofs.Lists.{get_or-repeated}
use Rattle.wire_frames.specs.Reading.{Reading, at_start}
use Rattle.drive_command.specs.declared.readers.TheConstants.{READERS}
use Rattle.drive_command.proofs.driver.Driver.new.Goals as goal

pub invariant_of-result : goal.invariant_of-result
invariant_of-result c = (
  omega arith,
  λ q. let none = ap (λ (rs : List Reading). (get_or rs q at_start).place) c.new.ensures ∙ ap (λ (r : Reading). r.place) (get_or-repeated READERS q at_start) in omega (arith, none),
)
