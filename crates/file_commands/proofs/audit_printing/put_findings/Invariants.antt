use Rattle.std.proofs.Common.{drop, List, Option, ℕ}
use Rattle.definitions.specs.declared.logs.Entry.{Entry}
use Rattle.definitions.specs.Findings.{findings}
use Rattle.definitions.specs.Lists.{EachIs}
use Rattle.definitions.specs.World.{Game}
use Rattle.definition_laws.specs.Members.{Has}
use Rattle.line_io.specs.Texts.{Underway}
use Rattle.auditor.specs.Audits.{StandsFor}
use Rattle.file_commands.specs.Audit.{all_found_text}
use Rattle.file_commands.proofs.audit_printing.put_findings.Given as goal

abbrev pub invariant-findings : goal.invariant-findings
invariant-findings g l =
    (game : Game) (owners : List (Option ℕ)) (logs : List (List Entry)) → StandsFor game owners logs l.auditor → EachIs (Has (findings game logs)) l.found →
    Underway (g.O.Sink.state l.initial.out) (g.O.Sink.state l.out) (all_found_text game logs l.found) (all_found_text game logs (drop l.finding-index l.found))
