use Rattle.std.proofs.Common.{List, subst, sym}
use Rattle.definitions.specs.declared.findings.Finding.{Finding}
use Rattle.definition_laws.specs.Members.{Has}
use Rattle.definition_laws.proofs.Collided.{accused_named}
use Rattle.log_files.specs.Audited.{logs_of}
use Rattle.log_files.proofs.laws.different_moves_are_reported.Goals as goal

pub returns : goal.returns
returns c game texts r i j q t g h m k is few at_i at_j by_m by_k differ =
    let w = accused_named game (logs_of game texts) i j q t g h m k few at_i at_j by_m by_k differ in
    record {
      finding = w.0;
      listed = subst (λ (fs : List Finding). Has fs w.0) (sym is.found) w.1.0;
      of_turn = (w.1.1, w.1.2);
      kind = w.1.3;
    }
