-- Everybody: of whom no player is, all players are others.
use Rattle.std.proofs.Common.{◌≡◌, ℕ, zero, suc, ◌+◌, ◌≤◌, false, List, [], ◌∷◌, ◌++◌, Result, Ok, Err, refl, sym, ap, ◌∙◌, add-one, zero-add, arith}
use Rattle.std.specs.Prelude.{IfOk, ◌==◌, map}
use Rattle.std.specs.List.{range_with_len}
use Rattle.std.proofs.lemmas.Bool.{ne_eqb}
use Rattle.plain_lemmas.proofs.Lists.{range_more}
use Rattle.text_fields.specs.declared.fault.TextFault.{TextFault}
use Rattle.rosters.specs.Rosters.{Neighbours, others}
use Rattle.rosters.specs.Text.{IsReadFrom}
use Rattle.rosters.specs.WatchText.{IsWatchFrom}

one_more : (n : ℕ) → range_with_len 0 (suc n) ≡ range_with_len 0 n ++ n ∷ []
one_more n =
    ap (range_with_len 0) (sym (add-one n)) ∙ range_more 0 n
    ∙ ap (λ m. range_with_len 0 n ++ m ∷ []) (zero-add n)

others_all : (me k : ℕ) → k ≤ me → others me k ≡ range_with_len 0 k
others_all me zero le = refl
others_all me (suc q) le = rw other (ap (λ (ps : List ℕ). ps ++ q ∷ []) (others_all me q (omega arith)) ∙ sym (one_more q))
  where
    other : (q == me) ≡ false
    other = ne_eqb q me (λ e. omega arith)

pub watch_from : (me players : ℕ) (r : Neighbours) (text : List ℕ) → players ≤ me → IsReadFrom me players r text → IsWatchFrom players r text
watch_from me players r text le from = record {
  own = from.roster.own;
  all = from.roster.numbers ∙ others_all me players le;
  links = from.roster.links;
  text_is = from.text_is;
}

pub read_from : (me players : ℕ) (r : Neighbours) (text : List ℕ) → players ≤ me → IsWatchFrom players r text → IsReadFrom me players r text
read_from me players r text le from = record {
  roster = record { own = from.own; numbers = from.all ∙ sym (others_all me players le); links = from.links };
  text_is = from.text_is;
}

pub found_each : (me players : ℕ) (text : List ℕ) (r : Result Neighbours TextFault) → players ≤ me →
    IfOk r (λ x. IsReadFrom me players x text) → IfOk r (λ x. IsWatchFrom players x text)
found_each me players text (Ok x) le from = watch_from me players x text le from
found_each me players text (Err e) le from = tt
