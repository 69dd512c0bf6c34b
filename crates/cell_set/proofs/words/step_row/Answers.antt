use Rattle.std.proofs.Common.{ℕ, refl, sym, ap, ◌∙◌, arith, rules, inl, inr, slice_index, bit_and, bit_or, get_or}
use Rattle.std.specs.Int.{bit_not, w64}
use Rattle.std.proofs.lemmas.Bool.{cases_lt}
use Rattle.std.proofs.lemmas.List.{get_or_past}
use Rattle.cell_set.proofs.RowBits.{row_without}
use Rattle.cell_set.proofs.Changes.{written_none, written_more, written_all, words_more, zeros_or}
use Rattle.cell_set.proofs.words.step_row.Goals as goal

pub loop-i-init : goal.loop-i-init
loop-i-init g c = record { len = search rules; stepped = λ k lt. absurd (omega arith); pair = λ k lt. absurd (omega arith); written = written_none c.args.row.now }

pub loop-i-preserved : goal.loop-i-preserved
loop-i-preserved g c =
    let inv = c.loop-i.invariant in
    record {
      len = search rules;
      stepped = words_more c.loop-i.row c.loop-i.i _ (λ k. bit_and (slice_index c.args.wide.now k) (bit_not w64 (slice_index c.args.walls.now k))) (omega arith) refl inv.stepped;
      pair = words_more c.loop-i.pair c.loop-i.i _ (λ k. bit_or (slice_index c.args.row.now k) (slice_index c.args.below.now k)) (omega arith)
          (ap (λ (w : ℕ). bit_or w (slice_index c.args.below.now c.loop-i.i)) (inv.written.rest c.loop-i.i (omega arith))) inv.pair;
      written = written_more c.args.row.now c.loop-i.row c.loop-i.i c.loop-i.change _ (omega arith) inv.written;
    }

pub returns-clause-stepped : goal.returns-clause-stepped
returns-clause-stepped g c = λ x lt. row_without c.args.wide.now c.args.walls.now c.loop-i.row g.row.W c.loop-i.i x (omega arith) (λ k. (c.type_inv.walls k).fits) c.loop-i.invariant.stepped lt

pub returns-clause-pair : goal.returns-clause-pair
returns-clause-pair g c = λ k.
    elim (cases_lt k g.row.W) [
      | inl lt ↦ c.loop-i.invariant.pair k (omega (arith, lt))
      | inr le ↦
          get_or_past c.loop-i.pair k 0 (omega (arith, le))
          ∙ sym (zeros_or (get_or c.args.row.now k 0) (get_or c.args.below.now k 0) (get_or_past c.args.row.now k 0 (omega (arith, le))) (get_or_past c.args.below.now k 0 (omega (arith, le))))
    ]

pub returns-clause-change : goal.returns-clause-change
returns-clause-change g c = written_all c.args.row.now c.loop-i.row c.loop-i.i c.loop-i.change c.loop-i.auto.row (omega arith) c.loop-i.invariant.written
