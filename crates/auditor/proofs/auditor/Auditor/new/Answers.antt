use Rattle.std.proofs.Common.{◌∙◌, sym, ℕ, List, [], Option, None, replicate}
use Rattle.definitions.specs.declared.logs.Entry.{Entry}
use Rattle.definitions.proofs.Items.{item_is}
use Rattle.frame_index.specs.declared.limits.TheConstants.{MOST_LOGS}
use Rattle.std.proofs.lemmas.List.{length-replicate}
use Rattle.auditor.proofs.Crossed.{crossed_none}
use Rattle.plain_lemmas.proofs.Lists.{get_or-repeated}
use Rattle.auditor.proofs.Counted.{none_counted, none_in}
use Rattle.auditor.proofs.auditor.Auditor.new.Goals as goal

pub returns-clause-stands : goal.returns-clause-stands
returns-clause-stands c = record {
  session = c.in_ok-copy.ensures;
  many = length-replicate MOST_LOGS (let nil : List Entry = [] in nil);
  index = c.new.ensures.stands c.args.session.now _ (none_in MOST_LOGS);
  made = c.new-2.ensures.stands c.args.session.now _ (crossed_none (replicate MOST_LOGS []) (none_in MOST_LOGS));
  counted = none_counted MOST_LOGS;
}

pub returns-clause-counts : goal.returns-clause-counts
returns-clause-counts c = λ log. get_or-repeated MOST_LOGS log (let nought : ℕ = 0 in nought)

pub returns-clause-owners : goal.returns-clause-owners
returns-clause-owners c = λ log. let none : Option ℕ = None in sym (item_is (replicate MOST_LOGS none) log none) ∙ get_or-repeated MOST_LOGS log none
