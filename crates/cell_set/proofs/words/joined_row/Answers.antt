use Rattle.std.proofs.Common.{refl, sym, ◌∙◌, arith, rules, inl, inr, slice_index, bit_or, get_or}
use Rattle.std.proofs.lemmas.Bool.{cases_lt}
use Rattle.std.proofs.lemmas.List.{get_or_past}
use Rattle.cell_set.proofs.Changes.{words_more, zeros_or}
use Rattle.cell_set.proofs.words.joined_row.Goals as goal

pub loop-i-preserved : goal.loop-i-preserved
loop-i-preserved g c = record {
  len = search rules;
  done = words_more c.loop-i.joined c.loop-i.i _ (λ k. bit_or (slice_index c.args.one.now k) (slice_index c.args.other.now k)) (omega arith) refl c.loop-i.invariant.done;
}

pub returns : goal.returns
returns g c = λ k.
    elim (cases_lt k g.row.W) [
      | inl lt ↦ c.loop-i.invariant.done k (omega (arith, lt))
      | inr le ↦
          get_or_past c.loop-i.joined k 0 (omega (arith, le))
          ∙ sym (zeros_or (get_or c.args.one.now k 0) (get_or c.args.other.now k 0) (get_or_past c.args.one.now k 0 (omega (arith, le))) (get_or_past c.args.other.now k 0 (omega (arith, le))))
    ]
