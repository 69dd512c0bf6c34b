use Rattle.std.proofs.Common.{List, arith, drop, subst, sym, take, ◌∙◌, ◌∷◌, []}
use Rattle.std.proofs.lemmas.List.{take-append-drop}
use Rattle.definitions.specs.declared.logs.Entry.{Entry}
use Rattle.auditor.specs.Taking.{Takes}
use Rattle.auditor.proofs.Fed.{on_err_always, take_one_more, takes_more}
use Rattle.auditor.proofs.Viewed.{counts_one}
use Rattle.auditor.proofs.auditor.Auditor.take_batch.Goals as goal

pub returns-in_err-take-clause-some : goal.returns-in_err-take-clause-some
returns-in_err-take-clause-some c = on_err_always c.from_residual.result (record {
  front = take c.entries.entry-index c.args.batch.now;
  behind = drop c.entries.entry-index c.args.batch.now;
  parts = sym (take-append-drop c.entries.entry-index c.args.batch.now);
  taken = λ game logs w. c.in_err-take.ensures.stands game _ (c.entries.invariant.taken game logs w);
})

pub entries-preserved : goal.entries-preserved
entries-preserved c =
    let before = c.entries.invariant in
    let one = counts_one c.entries.self c.take.new.self c.args.log tt c.in_ok-take.ensures.after in
    record {
      taken = subst (λ (es : List Entry). Takes c.args.self.now c.take.new.self c.args.log es) (sym (take_one_more c.args.batch.now c.entries.entry-index _ c.entries-test.true))
          (takes_more c.args.self.now c.entries.self c.take.new.self c.args.log (take c.entries.entry-index c.args.batch.now) (_ ∷ []) before.taken (λ game logs w. c.in_ok-take.ensures.stands game logs w));
      count = let grown = one.count in let count = before.count in omega arith;
      session = one.session ∙ before.session;
      owner = one.owners c.args.log ∙ before.owner;
      others = λ i ne. let old = before.others i ne in (one.others i ne ∙ old.0, one.owners i ∙ old.1);
    }
