use Rattle.std.proofs.Common.{◌≡◌, ◌<◌, ◌∙◌, ap, arith, subst, sym, true, List, ℕ}
use Rattle.std.specs.Prelude.{Err}
use Rattle.definitions.specs.declared.findings.Finding.{Finding}
use Rattle.definitions.specs.Findings.{findings}
use Rattle.definitions.specs.Lists.{EachIs}
use Rattle.definitions.specs.World.{players_of}
use Rattle.definition_laws.specs.Members.{Has}
use Rattle.station.specs.Sinks.{after_bytes}
use Rattle.run_frame.specs.declared.statuses.Status.{Status}
use Rattle.file_commands.specs.Audit.{audit_answer, status_by}
use Rattle.file_commands.specs.AuditPrinting.{Prints}
use Rattle.run_frame.specs.Frame.{Ran}
use Rattle.file_commands.proofs.Printed.{begun_lacked, begun_none, ended, printed_so}
use Rattle.file_commands.proofs.Reported.{each_stands, reported}
use Rattle.file_commands.proofs.auditing.put_audit.Goals as goal

pub returns-in_default : goal.returns-in_default
returns-in_default g c = λ owners logs stands owned. begun_lacked _ _ _ (begun_none _ _)

pub returns-in-Ok-put_report : goal.returns-in-Ok-put_report
returns-in-Ok-put_report g c = λ owners logs w o.
    let game = c.args.session.now in
    let before = g.O.Sink.state c.args.out.now in
    let now = g.O.Sink.state c.put_report.new.out in
    let players = c.facts.ensures.players.0 in
    let some : 0 < players_of game = omega (arith, players) in
    let is = c.in-Ok.ensures game owners logs w in
    let each = subst (λ (fs : List Finding). EachIs (Has (findings game logs)) fs) (sym is.found) (each_stands (findings game logs)) in
    let whole = subst (λ (text : List ℕ). now ≡ after_bytes before text) (reported game owners logs c.in-Ok.report some o is) (c.in-Ok-put_report.ensures owners logs w each) in
    subst (λ (s : Status). Ran before now (audit_answer game owners logs) true ⊥ ⊥ s) (sym c.status_by.ensures)
    (ended before now (audit_answer game owners logs) c.findings.result.now whole (ap status_by (c.findings.ensures ∙ is.found)))

pub returns : goal.returns
returns g c = λ owners logs w o.
    let game = c.args.session.now in
    let before = g.O.Sink.state c.args.out.now in
    let now = g.O.Sink.state c.put_report.new.out in
    let players = c.facts.ensures.players.0 in
    let some : 0 < players_of game = omega (arith, players) in
    let is = c.in-Ok.ensures game owners logs w in
    let each = subst (λ (fs : List Finding). EachIs (Has (findings game logs)) fs) (sym is.found) (each_stands (findings game logs)) in
    let fault = c.in-Err.fault in
    rw c.from.ensures
    (printed_so before now (audit_answer game owners logs) fault
    (subst (λ (text : List ℕ). Prints before now text (Err fault)) (reported game owners logs c.in-Ok.report some o is) (c.in-Err.ensures owners logs w each)))
