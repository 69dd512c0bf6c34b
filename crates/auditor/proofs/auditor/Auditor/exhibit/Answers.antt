use Rattle.std.proofs.Common.{subst, sym, ℕ}
use Rattle.definitions.specs.declared.findings.Kind.{Kind}
use Rattle.definitions.specs.Exhibits.{Shows}
use Rattle.auditor.proofs.Padded.{all, exhibit_stands, finding_stands, if_ok}
use Rattle.auditor.proofs.auditor.Auditor.exhibit.Goals as goal

pub returns-clause-frames : goal.returns-clause-frames
returns-clause-frames c = if_ok c.exhibit_all.result (λ x is game owners logs stands m.
    exhibit_stands game owners logs c.args.self.now stands c.args.finding.now x
    (is game (all game owners logs c.args.self.now stands) stands.audit (finding_stands game owners logs c.args.self.now stands c.args.finding.now m))) c.exhibit_all.ensures

pub returns-clause-shows : goal.returns-clause-shows
returns-clause-shows c = if_ok c.exhibit_all.result (λ x is game owners logs stands m each.
    let f = c.args.finding.now in
    let so = exhibit_stands game owners logs c.args.self.now stands f x
    (is game (all game owners logs c.args.self.now stands) stands.audit (finding_stands game owners logs c.args.self.now stands f m)) in
    subst (λ (q : ℕ). Shows game q x.turn x.kind x.frames) (sym so.player)
    (subst (λ (t : ℕ). Shows game f.player t x.kind x.frames) (sym so.turn)
    (subst (λ (k : Kind). Shows game f.player f.turn k x.frames) (sym so.kind)
    (subst (Shows game f.player f.turn f.kind) (sym so.frames) (c.findings_are_shown.ensures.shown game logs f each m))))) c.exhibit_all.ensures
