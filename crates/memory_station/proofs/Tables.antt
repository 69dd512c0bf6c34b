-- How changes of rows and pieces in memory are changes of the sockets that are seen.
use Rattle.std.proofs.Common.{◌⊎◌, inl, inr, zero, suc, ◌≢◌, ◌<◌, ◌≤◌, Bool, true, false, ◌≡◌, ℕ, ◌+◌, ◌==◌, List, [], ◌∷◌, ◌++◌, length, map, refl, sym, ap, subst, ◌∙◌, arith, get_or, if◌then◌else◌}
use Rattle.std.proofs.lemmas.Bool.Decides.{nat_tests}
use Rattle.std.proofs.lemmas.List.{set-get_or}
use Rattle.std.proofs.Math.ListN.{set}
use Rattle.socket_station.specs.declared.answers.Standing.TheVariants.{Fresh}
use Rattle.memory_station.specs.declared.rows.Row.{Row}
use Rattle.memory_station.specs.declared.rows.Piece.{Piece}
use Rattle.memory_station.specs.HeldRows.{HeldRow, held_at, row_in, new_row}
use Rattle.memory_station.specs.Rows.{held_row, IsRowSound, AreSound, AreNumbered}

pub differ : (m n : ℕ) → m ≢ n → (m == n) ≡ false
differ m n h = grind (arith, nat_tests)

pub same : (m n : ℕ) → m ≡ n → (m == n) ≡ true
same m n h = grind (arith, nat_tests)

-- a change at one number leaves a row of another number
at-other : (n : ℕ) (f : HeldRow → HeldRow) (l : HeldRow) → l.number ≢ n → (if l.number == n then f l else l) ≡ l
at-other n f l h = let e = differ l.number n h in rw e refl

at-same : (n : ℕ) (f : HeldRow → HeldRow) (l : HeldRow) → l.number ≡ n → (if l.number == n then f l else l) ≡ f l
at-same n f l h = let e = same l.number n h in rw e refl

-- a number before the first of these rows, or behind the last
abbrev IsAway : (b n count : ℕ) → Type 0
IsAway b n count = (n < b) ⊎ (b + count ≤ n)

away-first : (b n count : ℕ) → IsAway b n (suc count) → b ≢ n
away-first b n count (inl h) = λ e. absurd (omega (arith, h, e))
away-first b n count (inr h) = λ e. absurd (omega (arith, h, e))

away-rest : (b n count : ℕ) → IsAway b n (suc count) → IsAway (b + 1) n count
away-rest b n count (inl h) = inl (omega (arith, h))
away-rest b n count (inr h) = inr (omega (arith, h))

-- a change of a number that none of the rows has changes nothing
held_at-away : (ps : List Piece) (f : HeldRow → HeldRow) (b n : ℕ) (rows : List Row) → AreNumbered b rows → IsAway b n (length rows)
    → held_at n f (map (held_row ps) rows) ≡ map (held_row ps) rows
held_at-away ps f b n [] h i = refl
held_at-away ps f b n (l ∷ rows) h i =
    ap (λ x. x ∷ held_at n f (map (held_row ps) rows)) (at-other n f (held_row ps l) (λ e. away-first b n (length rows) i (sym h.0 ∙ e)))
    ∙ ap (λ xs. held_row ps l ∷ xs) (held_at-away ps f (b + 1) n rows h.1 (away-rest b n (length rows) i))

pub held_at-above : (ps : List Piece) (f : HeldRow → HeldRow) (b n : ℕ) (rows : List Row) → AreNumbered b rows → b + length rows ≤ n
    → held_at n f (map (held_row ps) rows) ≡ map (held_row ps) rows
held_at-above ps f b n rows h i = held_at-away ps f b n rows h (inr i)

-- a row that is written at its place
pub held_at-set : (ps : List Piece) (f : HeldRow → HeldRow) (b i : ℕ) (rows : List Row) (x y : Row) → AreNumbered b rows → i < length rows
    → x ≡ get_or rows i x → held_row ps y ≡ f (held_row ps x)
    → map (held_row ps) (set rows i y) ≡ held_at (b + i) f (map (held_row ps) rows)
held_at-set ps f b i [] x y h k g e = absurd (omega arith)
held_at-set ps f b zero (l ∷ rows) x y h k g e =
    let z : b + 0 ≡ b = omega arith in
    let here : (if l.number == b + 0 then f (held_row ps l) else held_row ps l) ≡ f (held_row ps l) = at-same (b + 0) f (held_row ps l) (h.0 ∙ sym z) in
    let is : x ≡ l = g in
    let rest : held_at (b + 0) f (map (held_row ps) rows) ≡ map (held_row ps) rows = held_at-away ps f (b + 1) (b + 0) rows h.1 (inl (omega arith)) in
    ap (λ v. v ∷ map (held_row ps) rows) (e ∙ (ap (λ v. f (held_row ps v)) is ∙ sym here))
    ∙ ap (λ vs. (if l.number == b + 0 then f (held_row ps l) else held_row ps l) ∷ vs) (sym rest)
held_at-set ps f b (suc i) (l ∷ rows) x y h k g e =
    let z : (b + 1) + i ≡ b + suc i = omega arith in
    let there : (if l.number == b + suc i then f (held_row ps l) else held_row ps l) ≡ held_row ps l =
    at-other (b + suc i) f (held_row ps l) (λ e. absurd (let e' : l.number ≡ b + suc i = e in let h0 = h.0 in omega arith)) in
    ap (λ v. v ∷ map (held_row ps) (set rows i y)) (sym there)
    ∙ ap (λ vs. (if l.number == b + suc i then f (held_row ps l) else held_row ps l) ∷ vs)
    (held_at-set ps f (b + 1) i rows x y h.1 (omega arith) g e ∙ ap (λ n. held_at n f (map (held_row ps) rows)) z)

pub AreNumbered-set : (b i : ℕ) (rows : List Row) (y : Row) → AreNumbered b rows → y.number ≡ b + i → AreNumbered b (set rows i y)
AreNumbered-set b i [] y h e = tt
AreNumbered-set b zero (l ∷ rows) y h e = (omega (arith, e), h.1)
AreNumbered-set b (suc i) (l ∷ rows) y h e = (h.0, AreNumbered-set (b + 1) i rows y h.1 (omega (arith, e)))

pub AreSound-set : (ps : List Piece) (i : ℕ) (rows : List Row) (y : Row) → AreSound ps rows → IsRowSound ps y → AreSound ps (set rows i y)
AreSound-set ps i [] y h e = tt
AreSound-set ps zero (l ∷ rows) y h e = (e, h.1)
AreSound-set ps (suc i) (l ∷ rows) y h e = (h.0, AreSound-set ps i rows y h.1 e)

-- the row at a place
pub row_in-get : (ps : List Piece) (b i : ℕ) (rows : List Row) (x : Row) → AreNumbered b rows → i < length rows → x ≡ get_or rows i x
    → row_in (map (held_row ps) rows) (b + i) ≡ held_row ps x
row_in-get ps b i [] x h k g = absurd (omega arith)
row_in-get ps b zero (l ∷ rows) x h k g =
    let z : l.number ≡ b + 0 = (let h0 = h.0 in omega arith) in
    let t = same l.number (b + 0) z in
    let is : x ≡ l = g in
    rw t (ap (held_row ps) (sym is))
row_in-get ps b (suc i) (l ∷ rows) x h k g =
    let z : (b + 1) + i ≡ b + suc i = omega arith in
    let t = differ l.number (b + suc i) (λ e. absurd (let e' : l.number ≡ b + suc i = e in let h0 = h.0 in omega arith)) in
    rw t (ap (λ n. row_in (map (held_row ps) rows) n) (sym z) ∙ row_in-get ps (b + 1) i rows x h.1 (omega arith) g)

pub row_in-above : (ps : List Piece) (b n : ℕ) (rows : List Row) → AreNumbered b rows → b + length rows ≤ n → row_in (map (held_row ps) rows) n ≡ new_row n Fresh
row_in-above ps b n [] h i = refl
row_in-above ps b n (l ∷ rows) h i =
    let t = differ l.number n (λ e. absurd (let e' : l.number ≡ n = e in let h0 = h.0 in omega arith)) in
    rw t (row_in-above ps (b + 1) n rows h.1 (omega arith))

pub number-get : (b i : ℕ) (rows : List Row) (x : Row) → AreNumbered b rows → i < length rows → x ≡ get_or rows i x → x.number ≡ b + i
number-get b i [] x h k g = absurd (omega arith)
number-get b zero (l ∷ rows) x h k g = let is : x ≡ l = g in ap (λ (v : Row). v.number) is ∙ (let h0 = h.0 in omega arith)
number-get b (suc i) (l ∷ rows) x h k g = let e = number-get (b + 1) i rows x h.1 (omega arith) g in omega (arith, e)

pub sound-get : (ps : List Piece) (i : ℕ) (rows : List Row) (x : Row) → AreSound ps rows → i < length rows → x ≡ get_or rows i x → IsRowSound ps x
sound-get ps i [] x h k g = absurd (omega arith)
sound-get ps zero (l ∷ rows) x h k g = let P : Row → Type 0 = λ v. IsRowSound ps v in let is : x ≡ l = g in subst P (sym is) h.0
sound-get ps (suc i) (l ∷ rows) x h k g = sound-get ps i rows x h.1 (omega arith) g

pub AreNumbered-push : (b : ℕ) (rows : List Row) (y : Row) → AreNumbered b rows → y.number ≡ b + length rows → AreNumbered b (rows ++ y ∷ [])
AreNumbered-push b [] y h e = (omega (arith, e), tt)
AreNumbered-push b (l ∷ rows) y h e = (h.0, AreNumbered-push (b + 1) rows y h.1 (omega (arith, e)))

pub AreSound-push : (ps : List Piece) (rows : List Row) (y : Row) → AreSound ps rows → IsRowSound ps y → AreSound ps (rows ++ y ∷ [])
AreSound-push ps [] y h e = (e, tt)
AreSound-push ps (l ∷ rows) y h e = (h.0, AreSound-push ps rows y h.1 e)

-- a change that leaves the row at its place leaves all
pub held_at-same : (ps : List Piece) (f : HeldRow → HeldRow) (i : ℕ) (rows : List Row) (x : Row) → AreNumbered 0 rows → i < length rows
    → x ≡ get_or rows i x → f (held_row ps x) ≡ held_row ps x → held_at i f (map (held_row ps) rows) ≡ map (held_row ps) rows
held_at-same ps f i rows x h k g e =
    let z : 0 + i ≡ i = omega arith in
    let all = held_at-set ps f 0 i rows x x h k g (sym e) in
    ap (λ n. held_at n f (map (held_row ps) rows)) (sym z) ∙ (sym all ∙ ap (map (held_row ps)) (ap (set rows i) g ∙ set-get_or rows i x))

-- the same at the place itself
pub held_at-place : (ps : List Piece) (f : HeldRow → HeldRow) (i : ℕ) (rows : List Row) (x y : Row) → AreNumbered 0 rows → i < length rows
    → x ≡ get_or rows i x → held_row ps y ≡ f (held_row ps x)
    → map (held_row ps) (set rows i y) ≡ held_at i f (map (held_row ps) rows)
held_at-place ps f i rows x y h k g e =
    let z : 0 + i ≡ i = omega arith in
    held_at-set ps f 0 i rows x y h k g e ∙ ap (λ n. held_at n f (map (held_row ps) rows)) z

pub row_in-place : (ps : List Piece) (i : ℕ) (rows : List Row) (x : Row) → AreNumbered 0 rows → i < length rows → x ≡ get_or rows i x
    → row_in (map (held_row ps) rows) i ≡ held_row ps x
row_in-place ps i rows x h k g =
    let z : 0 + i ≡ i = omega arith in
    ap (row_in (map (held_row ps) rows)) (sym z) ∙ row_in-get ps 0 i rows x h k g

-- the rows with one more of the next number
row_in-by : (ps : List Piece) (b n : ℕ) (rows : List Row) (y : HeldRow) → AreNumbered b rows → y.number ≡ b + length rows
    → row_in (map (held_row ps) rows ++ y ∷ []) n ≡ (if y.number == n then y else row_in (map (held_row ps) rows) n)
row_in-by ps b n [] y h e = refl
row_in-by ps b n (l ∷ rows) y h e = by-test (row_in-by ps (b + 1) n rows y h.1 (omega (arith, e))) (l.number == n) refl
  where
    by-test : row_in (map (held_row ps) rows ++ y ∷ []) n ≡ (if y.number == n then y else row_in (map (held_row ps) rows) n) → (t : Bool) → (l.number == n) ≡ t → (if t then held_row ps l else row_in (map (held_row ps) rows ++ y ∷ []) n) ≡ (if y.number == n then y else (if t then held_row ps l else row_in (map (held_row ps) rows) n))
    by-test rest true i =
        let is : l.number ≡ n = grind (arith, nat_tests) in
        let d : (y.number == n) ≡ false = differ y.number n (λ z. absurd (let z' : y.number ≡ n = z in let h0 = h.0 in omega (arith, e))) in
        rw d refl
    by-test rest false i = rest

pub row_in-push : (ps : List Piece) (n : ℕ) (rows : List Row) (y : HeldRow) → AreNumbered 0 rows → y.number ≡ length rows
    → row_in (map (held_row ps) rows ++ y ∷ []) n ≡ (if y.number == n then y else row_in (map (held_row ps) rows) n)
row_in-push ps n rows y h e = row_in-by ps 0 n rows y h (omega (arith, e))
