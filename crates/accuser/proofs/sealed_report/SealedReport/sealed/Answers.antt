use Rattle.std.proofs.Common.{ap, subst, sym, ◌∙◌}
use Rattle.std.specs.Prelude.{filter_map, IsTrue}
use Rattle.auditor.specs.Audits.{StandsFor}
use Rattle.sealed_evidence.specs.declared.sealed.SealedExhibit.{SealedExhibit}
use Rattle.sealed_evidence.specs.Judging.{shows_sealed}
use Rattle.accuser.specs.SealBooks.{seal_in}
use Rattle.accuser.specs.SealedReports.{SealedReported}
use Rattle.accuser.specs.Accused.{logs_of}
use Rattle.accuser.proofs.Sealing.{exactly, listed, sealed_shows}
use Rattle.accuser.proofs.sealed_report.SealedReport.sealed.Goals as goal

pub returns-clause-exact : goal.returns-clause-exact
returns-clause-exact c = λ game roots files accuses.
    let report = c.args.self.now in
    let finding = c.args.finding.now in
    let logs = logs_of game roots files in
    let has = accuses.exhibits in
    let x : SealedExhibit = record { exhibit = c.in_ok-exhibit.exhibit; seals = c.new.result } in
    let stands = subst (StandsFor game has.owners logs) (ap (λ (r : SealedReported). r.audit) (sym c.self.view_is)) has.stands in
    let is = c.in_ok-exhibit.ensures.frames game has.owners logs stands (listed game roots files report finding accuses c.requires) in
    let seals = c.new.ensures ∙ c.in_ok-seals.ensures ∙ ap (filter_map (seal_in c.self.inside.taker.seals)) c.as_slice.ensures
    ∙ ap (λ (r : SealedReported). filter_map (seal_in r.seals) x.exhibit.frames) c.self.view_is in
    exactly game roots files report finding x accuses is seals

pub returns-clause-shows : goal.returns-clause-shows
returns-clause-shows c = λ game roots files accuses.
    let report = c.args.self.now in
    let finding = c.args.finding.now in
    let logs = logs_of game roots files in
    let has = accuses.exhibits in
    let x : SealedExhibit = record { exhibit = c.in_ok-exhibit.exhibit; seals = c.new.result } in
    let stands = subst (StandsFor game has.owners logs) (ap (λ (r : SealedReported). r.audit) (sym c.self.view_is)) has.stands in
    let there = listed game roots files report finding accuses c.requires in
    let is = c.in_ok-exhibit.ensures.frames game has.owners logs stands there in
    let seals = c.new.ensures ∙ c.in_ok-seals.ensures ∙ ap (filter_map (seal_in c.self.inside.taker.seals)) c.as_slice.ensures
    ∙ ap (λ (r : SealedReported). filter_map (seal_in r.seals) x.exhibit.frames) c.self.view_is in
    subst (λ (y : SealedExhibit). IsTrue (shows_sealed game roots y)) (sym (exactly game roots files report finding x accuses is seals))
    (sealed_shows c.findings_are_shown.ensures.shown c.findings_are_shown.ensures.stand game roots files finding there)
