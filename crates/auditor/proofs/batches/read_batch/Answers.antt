use Rattle.std.proofs.Common.{List, arith, drop, sym, subst, take, ◌+◌, ◌∙◌, ◌∷◌, []}
use Rattle.std.proofs.lemmas.List.{drop-drop, length-set, take_more_set}
use Rattle.definitions.specs.declared.logs.Entry.{Entry}
use Rattle.auditor.specs.Taking.{ReadsOn}
use Rattle.auditor.proofs.Fed.{all_more, reads_more}
use Rattle.auditor.proofs.batches.read_batch.Goals as goal

pub entries-preserved : goal.entries-preserved
entries-preserved c =
    let before = c.entries.invariant in
    let entry = c.read_next.new.entry in
    let here = c.in-Some.ensures.used in
    let long = length-set c.entries.room c.entries.count entry in
    let one = subst (λ (rest : List _). ReadsOn c.args.session.now c.entries.feed c.read_next.new.feed (drop c.entries.place c.args.piece.now) rest (entry ∷ [])) (drop-drop c.in-Some.used c.entries.place c.args.piece.now) c.in-Some.ensures.next in
    let more = reads_more c.args.session.now c.args.feed.now c.entries.feed c.read_next.new.feed (drop c.args.at c.args.piece.now) (drop c.entries.place c.args.piece.now) _ (take c.entries.count c.entries.room) (entry ∷ []) before.reads one in
    record {
      fits = long ∙ before.fits;
      count = let lt = c.entries-test.true in omega (arith, long, lt);
      from = let from = before.from in let some = here.0 in omega arith;
      to = here.1;
      used = let used = before.used in let from = before.from in let is = here.2 in omega arith;
      reads = subst (λ (es : List Entry). ReadsOn c.args.session.now c.args.feed.now c.read_next.new.feed (drop c.args.at c.args.piece.now) (drop (c.entries.place + c.in-Some.used) c.args.piece.now) es) (sym (take_more_set c.entries.room c.entries.count entry c.entries-test.true)) more;
      sent = all_more c.entries.room c.entries.count entry c.entries-test.true before.sent c.in-Some.ensures.sent;
    }
