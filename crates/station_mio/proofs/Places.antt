-- Places: where the socket of a number stands among all.
use Rattle.std.proofs.Common.{◌≡◌, ℕ, ◌+◌, ◌<◌, ◌≤◌, ◌==◌, Bool, true, false, List, [], ◌∷◌, ◌++◌, Some, None, length, take, drop, get_or, set, refl, sym, ap, ◌∙◌, subst, arith}
use Rattle.std.specs.Prelude.{slice_get, option_map, if◌then◌else◌}
use Rattle.std.proofs.lemmas.Bool.Decides.{nat_tests}
use Rattle.std.proofs.lemmas.List.{append_assoc, take_more, take_more_set, drop_more, drop-set-lt, take-append-drop, take_all, map-set, map-append, take-map, drop-map, length-map}
use Rattle.std.proofs.lemmas.Option.{slice_get_read, slice_get-get_or, slice_get-map, slice_get_within, get_or_from_slice_get}
use Rattle.station_mio.specs.declared.rows.Row.{Row}
use Rattle.station_mio.specs.Rows.{Stand, IsPlaceOf, number_of, replaced, stand_in, stand_of, stands_of}

differ : (m n : ℕ) → (m ≡ n → ⊥) → (m == n) ≡ false
differ m n h = grind (arith, nat_tests)

equal : (m n : ℕ) → m ≡ n → (m == n) ≡ true
equal m n h = grind (arith, nat_tests)

-- the first of its number after others
found_after : (n : ℕ) (front back : List Stand) (s : Stand) → stand_in n front ≡ None → number_of s ≡ n →
    (stand_in n (front ++ s ∷ back) ≡ Some s) × ((f : Stand → List Stand) → replaced n f (front ++ s ∷ back) ≡ front ++ (f s ++ back))
found_after n [] back s a e = rw (equal (number_of s) n e) (refl, λ f. refl)
found_after n (t ∷ front) back s a e = by-test (number_of t == n) refl (λ k. found_after n front back s k e)
  where
    by-test : (b : Bool) → (number_of t == n) ≡ b →
        (stand_in n front ≡ None → (stand_in n (front ++ s ∷ back) ≡ Some s) × ((f : Stand → List Stand) → replaced n f (front ++ s ∷ back) ≡ front ++ (f s ++ back))) →
        (stand_in n (t ∷ (front ++ s ∷ back)) ≡ Some s) × ((f : Stand → List Stand) → replaced n f (t ∷ (front ++ s ∷ back)) ≡ t ∷ (front ++ (f s ++ back)))
    by-test true h rest = absurd (let k : (if true then Some t else stand_in n front) ≡ None = subst (λ (b : Bool). (if b then Some t else stand_in n front) ≡ None) h a in cc)
    by-test false h rest =
        let k : stand_in n front ≡ None = subst (λ (b : Bool). (if b then Some t else stand_in n front) ≡ None) h a in
        let r = rest k in
        rw h (r.0, λ f. ap (λ (x : List Stand). t ∷ x) (r.1 f))

-- one more without the number
others_more : (n : ℕ) (front : List Stand) (s : Stand) → stand_in n front ≡ None → (number_of s ≡ n → ⊥) → stand_in n (front ++ s ∷ []) ≡ None
others_more n [] s a h = rw (differ (number_of s) n h) refl
others_more n (t ∷ front) s a h = by-test (number_of t == n) refl (λ k. others_more n front s k h)
  where
    by-test : (b : Bool) → (number_of t == n) ≡ b → (stand_in n front ≡ None → stand_in n (front ++ s ∷ []) ≡ None) → stand_in n (t ∷ (front ++ s ∷ [])) ≡ None
    by-test true e rest = absurd (let k : (if true then Some t else stand_in n front) ≡ None = subst (λ (b : Bool). (if b then Some t else stand_in n front) ≡ None) e a in cc)
    by-test false e rest =
        let k : stand_in n front ≡ None = subst (λ (b : Bool). (if b then Some t else stand_in n front) ≡ None) e a in
        rw e (rest k)

-- where there is none all stay
others_same : (n : ℕ) (f : Stand → List Stand) (stands : List Stand) → stand_in n stands ≡ None → replaced n f stands ≡ stands
others_same n f [] a = refl
others_same n f (t ∷ stands) a = by-test (number_of t == n) refl (λ k. others_same n f stands k)
  where
    by-test : (b : Bool) → (number_of t == n) ≡ b → (stand_in n stands ≡ None → replaced n f stands ≡ stands) → replaced n f (t ∷ stands) ≡ t ∷ stands
    by-test true e rest = absurd (let k : (if true then Some t else stand_in n stands) ≡ None = subst (λ (b : Bool). (if b then Some t else stand_in n stands) ≡ None) e a in cc)
    by-test false e rest =
        let k : stand_in n stands ≡ None = subst (λ (b : Bool). (if b then Some t else stand_in n stands) ≡ None) e a in
        rw e (ap (λ (x : List Stand). t ∷ x) (rest k))

halves : (stands : List Stand) (place : ℕ) (s : Stand) → slice_get stands place ≡ Some s → stands ≡ take place stands ++ s ∷ drop (place + 1) stands
halves stands place s e =
    let lt = slice_get_within stands place s e in
    let is = get_or_from_slice_get stands place s s e in
    sym (take-append-drop place stands) ∙ ap (λ (x : List Stand). take place stands ++ x) (drop_more stands place s lt ∙ ap (λ (x : Stand). x ∷ drop (place + 1) stands) is)

-- none of the first ones has the number
abbrev pub Passed : ℕ → (count : ℕ) → List Stand → Type 0
Passed n count stands = stand_in n (take count stands) ≡ None

pub passed_none : (n : ℕ) (stands : List Stand) → Passed n 0 stands
passed_none n stands = refl

pub passed_more : (n : ℕ) (stands : List Stand) (place : ℕ) (s : Stand) → Passed n place stands → slice_get stands place ≡ Some s → (number_of s ≡ n → ⊥) → Passed n (place + 1) stands
passed_more n stands place s p e h =
    let lt = slice_get_within stands place s e in
    let is = get_or_from_slice_get stands place s s e in
    subst (λ (x : List Stand). stand_in n x ≡ None) (sym (take_more stands place s lt ∙ ap (λ (x : Stand). take place stands ++ x ∷ []) is)) (others_more n (take place stands) s p h)

pub passed_found : (n : ℕ) (stands : List Stand) (place : ℕ) (s : Stand) → Passed n place stands → slice_get stands place ≡ Some s → number_of s ≡ n → IsPlaceOf n stands (Some place)
passed_found n stands place s p e h =
    let r = found_after n (take place stands) (drop (place + 1) stands) s p h in
    let whole = sym (halves stands place s e) in
    (s, e, h, ap (λ (x : List Stand). stand_in n x) (sym whole) ∙ r.0, λ f. ap (λ (x : List Stand). replaced n f x) (sym whole) ∙ r.1 f)

pub passed_all : (n : ℕ) (stands : List Stand) (count : ℕ) → Passed n count stands → length stands ≤ count → IsPlaceOf n stands None
passed_all n stands count p few =
    let none = subst (λ (x : List Stand). stand_in n x ≡ None) (take_all count stands few) p in
    (none, λ f. others_same n f stands none)

-- how the socket of a row stands
pub stands_at : {S : Type 0} (number : S → ℕ) (rows : List (Row S)) (place : ℕ) (row : Row S) → place < length rows → row ≡ get_or rows place row → slice_get (stands_of number rows) place ≡ Some (stand_of number row)
stands_at number rows place row lt e = slice_get-map (stand_of number) rows place ∙ ap (λ o. option_map (stand_of number) o) (slice_get_read rows (length rows) place row refl lt e)

-- one is put in the place of another
pub set_halves : {X : Type 0} (xs : List X) (i : ℕ) (y : X) → i < length xs → set xs i y ≡ take i xs ++ y ∷ drop (i + 1) xs
set_halves {X = X} xs i y lt =
    sym (take-append-drop (i + 1) (set xs i y)) ∙
    ap (λ (x : List X). x ++ drop (i + 1) (set xs i y)) (take_more_set xs i y lt) ∙
    ap (λ (x : List X). (take i xs ++ y ∷ []) ++ x) (drop-set-lt (i + 1) xs i y (omega arith)) ∙
    append_assoc (take i xs) (y ∷ []) (drop (i + 1) xs)

-- the sockets of rows of which one changed
pub stands_set : {S : Type 0} (number : S → ℕ) (n : ℕ) (f : Stand → Stand) (rows : List (Row S)) (place : ℕ) (row : Row S) (d : Row S) →
    place < length rows → IsPlaceOf n (stands_of number rows) (Some place) → stand_of number row ≡ f (stand_of number (get_or rows place d)) →
    stands_of number (set rows place row) ≡ replaced n (λ s. f s ∷ []) (stands_of number rows)
stands_set number n f rows place row d lt w e =
    let stands = stands_of number rows in
    let at : stand_of number (get_or rows place d) ≡ w.0 = (let k : Some (stand_of number (get_or rows place d)) ≡ Some w.0 = sym (slice_get-map (stand_of number) rows place ∙ ap (λ o. option_map (stand_of number) o) (slice_get-get_or rows place d lt)) ∙ w.1 in cc) in
    let few : place < length stands = subst (λ (x : ℕ). place < x) (sym (length-map rows (stand_of number))) lt in
    map-set (stand_of number) rows place row ∙
    set_halves stands place (stand_of number row) few ∙
    ap (λ (x : Stand). take place stands ++ x ∷ drop (place + 1) stands) (e ∙ ap f at) ∙
    sym (w.4 (λ s. f s ∷ []))

-- and those of which one is gone
pub stands_gone : {S : Type 0} (number : S → ℕ) (rows : List (Row S)) (place : ℕ) →
    stands_of number (take place rows ++ drop (place + 1) rows) ≡ take place (stands_of number rows) ++ drop (place + 1) (stands_of number rows)
stands_gone number rows place =
    map-append (stand_of number) (take place rows) (drop (place + 1) rows) ∙
    ap (λ (x : List Stand). x ++ stands_of number (drop (place + 1) rows)) (sym (take-map (stand_of number) place rows)) ∙
    ap (λ (x : List Stand). take place (stands_of number rows) ++ x) (sym (drop-map (stand_of number) (place + 1) rows))

-- how one of the rows stands, and how all do after it changed
pub stands_changed : {S : Type 0} (number : S → ℕ) (rows : List (Row S)) (stands : List Stand) (place : ℕ) (row d : Row S) →
    place < length stands → d ≡ get_or rows place d → stands_of number rows ≡ stands →
    (slice_get stands place ≡ Some (stand_of number d)) × (stands_of number (set rows place row) ≡ take place stands ++ stand_of number row ∷ drop (place + 1) stands)
stands_changed number rows stands place row d few at same =
    let lt : place < length rows = subst (λ (x : ℕ). place < x) (ap (λ (x : List Stand). length x) (sym same) ∙ length-map rows (stand_of number)) few in (
      ap (λ (x : List Stand). slice_get x place) (sym same) ∙ stands_at number rows place d lt at,
      map-set (stand_of number) rows place row ∙ ap (λ (x : List Stand). set x place (stand_of number row)) same ∙ set_halves stands place (stand_of number row) few,
    )
