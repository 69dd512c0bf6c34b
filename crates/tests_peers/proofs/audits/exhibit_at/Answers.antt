use Rattle.std.proofs.Common.{◌<◌, ◌≡◌, List, length, slice_index_or, subst}
use Rattle.definitions.specs.declared.findings.Finding.{Finding}
use Rattle.auditor.specs.Reports.{found_in}
use Rattle.log_files.proofs.Texts.{reported}
use Rattle.tests_peers.proofs.audits.exhibit_at.Goals as goal

pub exhibit-requires-clause-found : goal.exhibit-requires-clause-found
exhibit-requires-clause-found c =
    let f = c.in-Some.finding.now in
    let item = c.in-Some.ensures.lookup in
    let within : c.args.at < length (found_in c.args.report.now) = subst (λ (fs : List Finding). c.args.at < length fs) c.findings.ensures item.3.0 in
    let is : f ≡ slice_index_or (found_in c.args.report.now) c.args.at f = subst (λ (fs : List Finding). f ≡ slice_index_or fs c.args.at f) c.findings.ensures item.1 in
    reported c.args.session.now c.args.logs.now c.args.report.now c.args.at f c.requires.report within is
