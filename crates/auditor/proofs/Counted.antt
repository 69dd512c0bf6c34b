-- Counted: the counts of the logs' entries, where one comes to a log and before any came.
use Rattle.std.proofs.Common.{List, None, Some, [], ap, arith, refl, suc, sym, zero, ℕ, ◌+◌, ◌++◌, ◌<◌, ◌∙◌, ◌∷◌, ◌≡◌, slice_get, length, get_or, set, replicate, true, false, Bool}
use Rattle.std.specs.Prelude.{◌==◌}
use Rattle.std.proofs.lemmas.Bool.{eqb-true, eqb-false}
use Rattle.std.proofs.lemmas.List.{get_or-replicate, length-append, length-replicate, length-set}
use Rattle.std.proofs.lemmas.Option.{get_or_from_slice_get, slice_get-get_or, slice_get_within}
use Rattle.definitions.specs.declared.logs.Entry.{Entry}
use Rattle.frame_index.specs.Appended.{with_entry}
use Rattle.frame_index.proofs.Grows.{own_after}
use Rattle.auditor.specs.Audits.{put_at}

-- an entry more is written to its log
with_entry_set : (logs : List (List Entry)) (i : ℕ) (e : Entry) → with_entry logs i e ≡ set logs i (get_or logs i [] ++ e ∷ [])
with_entry_set [] i e = refl
with_entry_set (h ∷ hs) zero e = refl
with_entry_set (h ∷ hs) (suc i) e = ap (λ ls. h ∷ ls) (with_entry_set hs i e)

-- and makes no log more
pub length-with_entry : (logs : List (List Entry)) (i : ℕ) (e : Entry) → length (with_entry logs i e) ≡ length logs
length-with_entry logs i e = ap length (with_entry_set logs i e) ∙ length-set logs i (get_or logs i [] ++ e ∷ [])

-- the others stay
set_there : {X : Type 0} (xs : List X) (i l : ℕ) (x : X) → (l ≡ i → ⊥) → slice_get (set xs i x) l ≡ slice_get xs l
set_there [] i l x ne = refl
set_there (z ∷ zs) zero zero x ne = absurd (ne refl)
set_there (z ∷ zs) zero (suc l) x ne = refl
set_there (z ∷ zs) (suc i) zero x ne = refl
set_there (z ∷ zs) (suc i) (suc l) x ne = set_there zs i l x (λ same. ne (ap suc same))

-- the counts are those of the logs
abbrev AreCounts : List (List Entry) → List ℕ → Type 0
AreCounts logs counts = (i : ℕ) (h : List Entry) → slice_get logs i ≡ Some h → get_or counts i 0 ≡ length h

-- what stands at a place where an item was put, and at the others
pub put_here : {A : Type 0} (d : A) (xs : List A) (i : ℕ) (x : A) → get_or (put_at d xs i x) i d ≡ x
put_here d [] zero x = refl
put_here d [] (suc i) x = put_here d [] i x
put_here d (y ∷ ys) zero x = refl
put_here d (y ∷ ys) (suc i) x = put_here d ys i x

pub put_there : {A : Type 0} (d : A) (xs : List A) (i l : ℕ) (x : A) → (l ≡ i → ⊥) → get_or (put_at d xs i x) l d ≡ get_or xs l d
put_there d [] zero zero x ne = absurd (ne refl)
put_there d [] zero (suc l) x ne = refl
put_there d [] (suc i) zero x ne = refl
put_there d [] (suc i) (suc l) x ne = put_there d [] i l x (λ same. ne (ap suc same))
put_there d (y ∷ ys) zero zero x ne = absurd (ne refl)
put_there d (y ∷ ys) zero (suc l) x ne = refl
put_there d (y ∷ ys) (suc i) zero x ne = refl
put_there d (y ∷ ys) (suc i) (suc l) x ne = put_there d ys i l x (λ same. ne (ap suc same))

-- where there are so many, it is set
pub put_within : {A : Type 0} (d : A) (xs : List A) (i : ℕ) (x : A) → i < length xs → set xs i x ≡ put_at d xs i x
put_within d [] i x lt = absurd (omega (arith, lt))
put_within d (y ∷ ys) zero x lt = refl
put_within d (y ∷ ys) (suc i) x lt = ap (λ zs. y ∷ zs) (put_within d ys i x (omega (arith, lt)))

-- with the one of the log more by one, they are those of the logs with the entry
pub counts_grown : (logs : List (List Entry)) (counts : List ℕ) (log : ℕ) (h : List Entry) (e : Entry) → slice_get logs log ≡ Some h → AreCounts logs counts →
    AreCounts (with_entry logs log e) (put_at 0 counts log (get_or counts log 0 + 1))
counts_grown logs counts log h e there are i g at = go (i == log) refl
  where
    go : (b : Bool) → (i == log) ≡ b → get_or (put_at 0 counts log (get_or counts log 0 + 1)) i 0 ≡ length g
    go false x =
        let ne = eqb-false i log x in
        put_there 0 counts log i (get_or counts log 0 + 1) ne
        ∙ are i g (sym (ap (λ (ls : List (List Entry)). slice_get ls i) (with_entry_set logs log e) ∙ set_there logs log i (get_or logs log [] ++ e ∷ []) ne) ∙ at)
    go true x =
        let same = eqb-true i log x in
        let one : Some g ≡ Some (h ++ e ∷ []) = sym at ∙ ap (slice_get (with_entry logs log e)) same ∙ own_after logs log e h there in
        let is : g ≡ h ++ e ∷ [] = cc in
        ap (λ (l : ℕ). get_or (put_at 0 counts log (get_or counts log 0 + 1)) l 0) same ∙ put_here 0 counts log (get_or counts log 0 + 1)
        ∙ ap (λ (n : ℕ). n + 1) (are log h there) ∙ sym (length-append h (e ∷ [])) ∙ sym (ap length is)

-- empty logs, and counts of them
pub none_in : (n i : ℕ) (h : List Entry) → slice_get (replicate n []) i ≡ Some h → h ≡ []
none_in n i h at =
    let lt = slice_get_within (replicate n []) i h at in
    let long = length-replicate n (let nil : List Entry = [] in nil) in
    sym (get_or_from_slice_get (replicate n []) i h [] at) ∙ get_or-replicate n i [] [] (omega arith)

pub none_counted : (n : ℕ) → AreCounts (replicate n []) (replicate n 0)
none_counted n i h at =
    let lt = slice_get_within (replicate n []) i h at in
    let long = length-replicate n (let nil : List Entry = [] in nil) in
    let less : i < n = omega arith in
    get_or-replicate n i 0 0 less ∙ sym (ap length (none_in n i h at))
