use Rattle.std.proofs.Common.{◌≡◌, List, None, Option, ap, arith, ◌∙◌, ℕ}
use Rattle.std.proofs.lemmas.List.{length-set}
use Rattle.definitions.specs.Lists.{item_or}
use Rattle.definitions.proofs.Items.{item_is}
use Rattle.frame_index.proofs.Leaving.{told_more}
use Rattle.auditor.specs.Accords.{is_own}
use Rattle.auditor.specs.Audits.{AuditState}
use Rattle.auditor.proofs.auditor.Auditor.own_logs.Goals as goal

pub loop-at-preserved : goal.loop-at-preserved
loop-at-preserved c =
    let owners = c.self.inside.owners in
    let same : owners ≡ c.args.self.now.owners = ap (λ (a : AuditState). a.owners) c.self.view_is in
    let q = c.args.player in
    let long = c.loop-at.invariant.long in
    record {
      long = length-set c.loop-at.chosen c.loop-at.at _ ∙ long;
      told = told_more (λ i. is_own (item_or c.args.self.now.owners i None) q) c.loop-at.chosen c.loop-at.at c.eq.result (omega arith)
          (c.eq.ensures ∙ ap (λ (o : Option ℕ). is_own o q) (item_is owners c.loop-at.at None ∙ ap (λ (os : List (Option ℕ)). item_or os c.loop-at.at None) same)) c.loop-at.invariant.told;
    }
