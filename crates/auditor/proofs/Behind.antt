-- Behind: what stands behind the logs that an auditor took, and one log more.
use Rattle.std.proofs.Common.{◌≡◌, ℕ, zero, suc, ◌+◌, ◌-◌, ◌<◌, List, [], ◌∷◌, ◌++◌, Option, None, length, refl, sym, ◌∙◌, ap, append_assoc, append-nil, length-append, arith}
use Rattle.std.specs.Prelude.{replicate}
use Rattle.definitions.specs.declared.logs.Entry.{Entry}
use Rattle.definitions.specs.Lists.{item_or}
use Rattle.frame_index.specs.declared.limits.TheConstants.{MOST_LOGS}
use Rattle.frame_index.specs.Appended.{with_entry}
use Rattle.auditor.specs.Audits.{padded}
use Rattle.auditor.specs.Taking.{with_entries}

-- entries at the end of the log behind these
entry_behind : (done : List (List Entry)) (h : List Entry) (rest : List (List Entry)) (e : Entry) → with_entry (done ++ h ∷ rest) (length done) e ≡ done ++ (h ++ e ∷ []) ∷ rest
entry_behind [] h rest e = refl
entry_behind (d ∷ done) h rest e = ap (λ ls. d ∷ ls) (entry_behind done h rest e)

entries_behind : (es : List Entry) (done : List (List Entry)) (h : List Entry) (rest : List (List Entry)) → with_entries (done ++ h ∷ rest) (length done) es ≡ done ++ (h ++ es) ∷ rest
entries_behind [] done h rest = ap (λ x. done ++ x ∷ rest) (sym (append-nil h))
entries_behind (e ∷ es) done h rest =
    ap (λ ls. with_entries ls (length done) es) (entry_behind done h rest e) ∙ entries_behind es done (h ++ e ∷ []) rest ∙
    ap (λ x. done ++ x ∷ rest) (append_assoc h (e ∷ []) es)

-- the first of the empty logs behind these is no longer empty
pub next_log : (done : List (List Entry)) (es : List Entry) → length done < MOST_LOGS →
    with_entries (padded done (MOST_LOGS - length done)) (length done) es ≡ padded (done ++ es ∷ []) (MOST_LOGS - length (done ++ es ∷ []))
next_log done es few =
    let n : ℕ = length done in
    let long : length (done ++ es ∷ []) ≡ n + 1 = length-append done (es ∷ []) in
    let left : MOST_LOGS - n ≡ suc (MOST_LOGS - (n + 1)) = omega (arith, few) in
    let now : MOST_LOGS - length (done ++ es ∷ []) ≡ MOST_LOGS - (n + 1) = ap (λ k. MOST_LOGS - k) long in
    let behind : List (List Entry) = replicate (MOST_LOGS - (n + 1)) [] in
    ap (λ k. with_entries (padded done k) n es) left ∙ entries_behind es done [] behind ∙ sym (append_assoc done (es ∷ []) behind) ∙
    ap (λ k. padded (done ++ es ∷ []) k) (sym now)

-- an item behind a list, and one more
pub item_more : (xs : List (Option ℕ)) (x : Option ℕ) (i : ℕ) → (i ≡ length xs → ⊥) → item_or (xs ++ x ∷ []) i None ≡ item_or xs i None
item_more [] x zero not = absurd (not refl)
item_more [] x (suc i) not = refl
item_more (y ∷ xs) x zero not = refl
item_more (y ∷ xs) x (suc i) not = item_more xs x i (λ e. not (ap suc e))

pub item_last : (xs : List (Option ℕ)) (x : Option ℕ) → item_or (xs ++ x ∷ []) (length xs) None ≡ x
item_last [] x = refl
item_last (y ∷ xs) x = item_last xs x
