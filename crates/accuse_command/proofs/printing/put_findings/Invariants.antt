use Rattle.std.proofs.Common.{drop, List, ℕ}
use Rattle.definitions.specs.World.{Game}
use Rattle.line_io.specs.Texts.{Underway}
use Rattle.accuser.specs.Accused.{Accuses}
use Rattle.accuse_command.specs.Accuse.{all_accused_text}
use Rattle.accuse_command.proofs.printing.put_findings.Given as goal

abbrev pub invariant-findings : goal.invariant-findings
invariant-findings g l =
    (game : Game) (roots files : List (List ℕ)) → Accuses game roots files l.report →
    Underway (g.O.Sink.state l.initial.out) (g.O.Sink.state l.out) (all_accused_text game roots files l.found) (all_accused_text game roots files (drop l.finding-index l.found))
