use Rattle.move_rules.specs.declared.window.TheConstants.{ROWS}
use Rattle.move_rules.proofs.WindowBits.{lit_zeros}
use Rattle.move_rules.proofs.window.no_rows.Goals as goal

pub returns-clause-bits : goal.returns-clause-bits
returns-clause-bits c = lit_zeros ROWS
