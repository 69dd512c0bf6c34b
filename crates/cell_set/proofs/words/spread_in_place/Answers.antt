use Rattle.std.proofs.Common.{refl, sym, ◌∙◌, ◌+◌, arith, get_or}
use Rattle.std.proofs.lemmas.List.{get_or-set_other}
use Rattle.cell_set.proofs.RowBits.{spread_more, row_spread, word_before-next}
use Rattle.cell_set.proofs.words.spread_in_place.Goals as goal

pub loop-i-init : goal.loop-i-init
loop-i-init c = record { so_far = λ k lt j low. absurd (omega arith); rest = λ k le. refl; before = refl }

pub loop-i-preserved : goal.loop-i-preserved
loop-i-preserved c =
    let inv = c.loop-i.invariant in
    record {
      so_far = spread_more c.args.row.now c.loop-i.row c.loop-i.i c.loop-i.before (get_or c.loop-i.row c.loop-i.i 0) c.word_at.result c.spread_word.result (omega arith) inv.so_far inv.before
          (inv.rest c.loop-i.i (omega arith)) (c.word_at.ensures ∙ inv.rest (c.loop-i.i + 1) (omega arith)) c.spread_word.ensures;
      rest = λ k le. get_or-set_other c.loop-i.row c.loop-i.i k c.spread_word.result 0 (λ e. absurd (omega (arith, e))) ∙ inv.rest k (omega arith);
      before = inv.rest c.loop-i.i (omega arith) ∙ sym (word_before-next c.args.row.now c.loop-i.i);
    }

pub returns : goal.returns
returns c = row_spread c.args.row.now c.loop-i.row c.loop-i.i (omega arith) c.loop-i.invariant.so_far
