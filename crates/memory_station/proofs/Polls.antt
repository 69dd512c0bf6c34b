-- What a poll lists and opens.
use Rattle.std.proofs.Common.{zero, suc, ◌<◌, ◌≤◌, Bool, true, false, ◌≡◌, ℕ, ◌+◌, ◌==◌, List, [], ◌∷◌, ◌++◌, Option, Some, None, take, map, refl, sym, ap, subst, ◌∙◌, arith, if◌then◌else◌}
use Rattle.std.specs.Prelude.{option_to_list}
use Rattle.std.specs.List.{filter_map}
use Rattle.std.proofs.lemmas.Bool.Decides.{nat_tests}
use Rattle.std.proofs.lemmas.List.Elements.{filter_map-append}
use Rattle.socket_station.specs.declared.answers.Ready.{Ready}
use Rattle.socket_station.specs.declared.answers.Ready.TheVariants.{Opened, Socket as Seems}
use Rattle.socket_station.specs.declared.answers.Standing.{Standing}
use Rattle.socket_station.specs.declared.answers.Standing.TheVariants.{Fresh, Open, Closed}
use Rattle.socket_station.specs.Standings.{opens, AreNew}
use Rattle.memory_station.specs.declared.rows.Row.{Row}
use Rattle.memory_station.specs.declared.rows.Piece.{Piece}
use Rattle.memory_station.specs.HeldRows.{uncounted, HeldRow, row_in, polled, ready_in, ready_as, is_wanted, listing}
use Rattle.memory_station.specs.Rows.{row_uncounted, held_row, polled_row, AreSound, AreNumbered, CountFrom}
use Rattle.memory_station.proofs.Tables.{same, differ}

-- a full list stays as it is
take-take-append : {A : Type 0} (n : ℕ) (xs ys : List A) → take n (take n xs ++ ys) ≡ take n (xs ++ ys)
take-take-append zero xs ys = refl
take-take-append (suc n) [] ys = refl
take-take-append (suc n) (x ∷ xs) ys = ap (λ r. x ∷ r) (take-take-append n xs ys)

filter-one : (l : HeldRow) → filter_map ready_in (l ∷ []) ≡ option_to_list (ready_in l)
filter-one l = by-item (ready_in l) refl
  where
    by-item : (o : Option Ready) → ready_in l ≡ o → filter_map ready_in (l ∷ []) ≡ option_to_list o
    by-item None e = rw e refl
    by-item (Some r) e = rw e refl

filter-cons : (l : HeldRow) (rows : List HeldRow) → filter_map ready_in (l ∷ rows) ≡ option_to_list (ready_in l) ++ filter_map ready_in rows
filter-cons l rows = filter_map-append ready_in (l ∷ []) rows ∙ ap (λ r. r ++ filter_map ready_in rows) (filter-one l)

pub listing-more : (rows : List HeldRow) (l : HeldRow) → take 64 (listing rows ++ option_to_list (ready_in l)) ≡ listing (rows ++ l ∷ [])
listing-more rows l =
    take-take-append 64 (filter_map ready_in rows) (option_to_list (ready_in l))
    ∙ ap (take 64) (ap (λ r. filter_map ready_in rows ++ r) (sym (filter-one l)) ∙ sym (filter_map-append ready_in rows (l ∷ [])))

-- the rows after a poll
pub map-polled : (ps : List Piece) (list : List Ready) (rows : List Row) → map (held_row ps) (map (polled_row list) rows) ≡ map (polled list) (map (held_row ps) rows)
map-polled ps list [] = refl
map-polled ps list (l ∷ rows) = ap (λ r. polled list (held_row ps l) ∷ r) (map-polled ps list rows)

-- what is made of each row has its number
pub counted-map : {X Y : Type 0} (number : X → ℕ) (number' : Y → ℕ) (f : X → Y) → ((x : X) → number' (f x) ≡ number x) → (b : ℕ) (xs : List X) → CountFrom number b xs →
    CountFrom number' b (map f xs)
counted-map number number' f same b [] h = tt
counted-map number number' f same b (x ∷ xs) h = (same x ∙ h.0, counted-map number number' f same (b + 1) xs h.1)

pub AreSound-polled : (ps : List Piece) (list : List Ready) (rows : List Row) → AreSound ps rows → AreSound ps (map (polled_row list) rows)
AreSound-polled ps list [] h = tt
AreSound-polled ps list (l ∷ rows) h = (record { from = h.0.from; inside = h.0.inside }, AreSound-polled ps list rows h.1)

-- the seen rows have the numbers from this one on
abbrev pub Numbered : ℕ → List HeldRow → Type 0
Numbered b rows = CountFrom (λ (l : HeldRow). l.number) b rows

opens-nothing : (k n : ℕ) → opens (take k []) n ≡ false
opens-nothing zero n = refl
opens-nothing (suc k) n = refl

-- a list of later rows opens no earlier number
opens-above : (b n k : ℕ) (rows : List HeldRow) → Numbered b rows → n < b → opens (take k (filter_map ready_in rows)) n ≡ false
opens-above b n k [] h i = opens-nothing k n
opens-above b n k (l ∷ rows) h i =
    ap (λ r. opens (take k r) n) (filter-cons l rows) ∙ by-st l.standing k (λ j. opens-above (b + 1) n j rows h.1 (omega arith))
  where
    by-wanted : (w : Bool) (k : ℕ) → ((j : ℕ) → opens (take j (filter_map ready_in rows)) n ≡ false) → opens (take k (option_to_list (if w then Some (Seems l.number) else None) ++ filter_map ready_in rows)) n ≡ false
    by-wanted true zero r = refl
    by-wanted true (suc j) r = r j
    by-wanted false k r = r k

    by-fresh : (k : ℕ) → (l.number == n) ≡ false → ((j : ℕ) → opens (take j (filter_map ready_in rows)) n ≡ false) → opens (take k (Opened l.number ∷ filter_map ready_in rows)) n ≡ false
    by-fresh zero d r = refl
    by-fresh (suc j) d r = rw d (r j)

    by-st : (s : Standing) (k : ℕ) → ((j : ℕ) → opens (take j (filter_map ready_in rows)) n ≡ false) → opens (take k (option_to_list (ready_as s l) ++ filter_map ready_in rows)) n ≡ false
    by-st Fresh k r = by-fresh k (differ l.number n (λ e. absurd (let e' : l.number ≡ n = e in let h0 = h.0 in omega arith))) r
    by-st Open k r = by-wanted (is_wanted l) k r
    by-st Closed k r = r k

-- each row stands as this says of its number
abbrev pub Agrees : (ℕ → Standing) → List HeldRow → Type 0
Agrees old [] = Unit {0}
Agrees old (l ∷ rows) = (old l.number ≡ l.standing) × Agrees old rows

agrees-all : (old : ℕ → Standing) (b : ℕ) (rows : List HeldRow) → Numbered b rows → ((n : ℕ) → b ≤ n → old n ≡ (row_in rows n).standing) → Agrees old rows
agrees-all old b [] h e = tt
agrees-all old b (l ∷ rows) h e = (here, agrees-all old (b + 1) rows h.1 (λ n i. e n (omega arith) ∙ there n i))
  where
    here : old l.number ≡ l.standing
    here = (let h0 = h.0 in let s = same l.number l.number refl in e l.number (omega arith) ∙ (rw s refl))

    there : (n : ℕ) → b + 1 ≤ n → (row_in (l ∷ rows) n).standing ≡ (row_in rows n).standing
    there n i = (let d = differ l.number n (λ z. absurd (let z' : l.number ≡ n = z in let h0 = h.0 in omega arith)) in rw d refl)

-- what is opened was never used
are-new : (old : ℕ → Standing) (b k : ℕ) (rows : List HeldRow) → Numbered b rows → Agrees old rows → AreNew old (take k (filter_map ready_in rows))
are-new old b zero [] h a = tt
are-new old b (suc k) [] h a = tt
are-new old b k (l ∷ rows) h a =
    let P : List Ready → Type 0 = λ r. AreNew old (take k r) in
    subst P (sym (filter-cons l rows)) (by-st l.standing k refl (λ j. are-new old (b + 1) j rows h.1 a.1) (λ j. opens-above (b + 1) l.number j rows h.1 (let h0 = h.0 in omega arith)))
  where
    by-wanted : (w : Bool) (k : ℕ) → ((j : ℕ) → AreNew old (take j (filter_map ready_in rows))) → AreNew old (take k (option_to_list (if w then Some (Seems l.number) else None) ++ filter_map ready_in rows))
    by-wanted true zero r = tt
    by-wanted true (suc j) r = r j
    by-wanted false k r = r k

    by-fresh : (k : ℕ) → old l.number ≡ Fresh → ((j : ℕ) → AreNew old (take j (filter_map ready_in rows))) → ((j : ℕ) → opens (take j (filter_map ready_in rows)) l.number ≡ false) → AreNew old (take k (Opened l.number ∷ filter_map ready_in rows))
    by-fresh zero f r o = tt
    by-fresh (suc j) f r o = (f, o j, r j)

    by-st : (s : Standing) (k : ℕ) → l.standing ≡ s → ((j : ℕ) → AreNew old (take j (filter_map ready_in rows))) → ((j : ℕ) → opens (take j (filter_map ready_in rows)) l.number ≡ false) → AreNew old (take k (option_to_list (ready_as s l) ++ filter_map ready_in rows))
    by-st Fresh k e r o = by-fresh k (a.0 ∙ e) r o
    by-st Open k e r o = by-wanted (is_wanted l) k r
    by-st Closed k e r o = r k

pub AreNew-listing : (ps : List Piece) (rows : List Row) → AreNumbered 0 rows → AreNew (λ n. (row_in (map (held_row ps) rows) n).standing) (listing (map (held_row ps) rows))
AreNew-listing ps rows h =
    let n = counted-map (λ (l : Row). l.number) (λ (l : HeldRow). l.number) (held_row ps) (λ l. refl) 0 rows h in
    are-new (λ n. (row_in (map (held_row ps) rows) n).standing) 0 64 (map (held_row ps) rows) n (agrees-all (λ n. (row_in (map (held_row ps) rows) n).standing) 0 (map (held_row ps) rows) n (λ n i. refl))

-- what is not opened stays
moves-none : (list : List Ready) (n : ℕ) (rows : List HeldRow) → opens list n ≡ false → (row_in (map (polled list) rows) n).standing ≡ (row_in rows n).standing
moves-none list n [] o = refl
moves-none list n (l ∷ rows) o = by-test (l.number == n) refl (moves-none list n rows o)
  where
    by-test : (t : Bool) → (l.number == n) ≡ t → (row_in (map (polled list) rows) n).standing ≡ (row_in rows n).standing
        → (if t then polled list l else row_in (map (polled list) rows) n).standing ≡ (if t then l else row_in rows n).standing
    by-test true e r = let x : l.number ≡ n = grind (arith, nat_tests) in let h : opens list l.number ≡ false = ap (opens list) x ∙ o in rw h refl
    by-test false e r = r

-- what is opened is open
moves-open : (list : List Ready) (n k : ℕ) (rows : List HeldRow) → opens list n ≡ true → opens (take k (filter_map ready_in rows)) n ≡ true
    → (row_in (map (polled list) rows) n).standing ≡ Open
moves-open list n k [] o i = absurd (let e : false ≡ true = sym (opens-nothing k n) ∙ i in cc)
moves-open list n k (l ∷ rows) o i = by-test (l.number == n) refl (λ j. moves-open list n j rows o)
  where
    by-wanted : (w : Bool) (k : ℕ) → opens (take k (option_to_list (if w then Some (Seems l.number) else None) ++ filter_map ready_in rows)) n ≡ true → (j : ℕ) × (opens (take j (filter_map ready_in rows)) n ≡ true)
    by-wanted true zero e = absurd (cc)
    by-wanted true (suc j) e = (j, e)
    by-wanted false k e = (k, e)

    by-fresh : (k : ℕ) → (l.number == n) ≡ false → opens (take k (Opened l.number ∷ filter_map ready_in rows)) n ≡ true → (j : ℕ) × (opens (take j (filter_map ready_in rows)) n ≡ true)
    by-fresh zero d e = absurd (cc)
    by-fresh (suc j) d e = (j, rw d at e)

    by-st : (s : Standing) (k : ℕ) → (l.number == n) ≡ false → opens (take k (option_to_list (ready_as s l) ++ filter_map ready_in rows)) n ≡ true → (j : ℕ) × (opens (take j (filter_map ready_in rows)) n ≡ true)
    by-st Fresh k d e = by-fresh k d e
    by-st Open k d e = by-wanted (is_wanted l) k e
    by-st Closed k d e = (k, e)

    by-test : (t : Bool) → (l.number == n) ≡ t → ((j : ℕ) → opens (take j (filter_map ready_in rows)) n ≡ true → (row_in (map (polled list) rows) n).standing ≡ Open)
        → (if t then polled list l else row_in (map (polled list) rows) n).standing ≡ Open
    by-test true e r = let x : l.number ≡ n = grind (arith, nat_tests) in let h : opens list l.number ≡ true = ap (opens list) x ∙ o in rw h refl
    by-test false e r = let w = by-st l.standing k e (sym (ap (λ v. opens (take k v) n) (filter-cons l rows)) ∙ i) in r w.0 w.1

pub moves-listing : (n : ℕ) (rows : List HeldRow) → (row_in (map (polled (listing rows)) rows) n).standing ≡ (if opens (listing rows) n then Open else (row_in rows n).standing)
moves-listing n rows = by-test (opens (listing rows) n) refl
  where
    by-test : (t : Bool) → opens (listing rows) n ≡ t → (row_in (map (polled (listing rows)) rows) n).standing ≡ (if t then Open else (row_in rows n).standing)
    by-test true e = moves-open (listing rows) n 64 rows e e
    by-test false e = moves-none (listing rows) n rows e

-- the rows whose writes are counted from here on
pub map-uncounted : (ps : List Piece) (rows : List Row) → map (held_row ps) (map row_uncounted rows) ≡ map uncounted (map (held_row ps) rows)
map-uncounted ps [] = refl
map-uncounted ps (l ∷ rows) = ap (λ r. uncounted (held_row ps l) ∷ r) (map-uncounted ps rows)

pub AreSound-uncounted : (ps : List Piece) (rows : List Row) → AreSound ps rows → AreSound ps (map row_uncounted rows)
AreSound-uncounted ps [] h = tt
AreSound-uncounted ps (l ∷ rows) h = (record { from = h.0.from; inside = h.0.inside }, AreSound-uncounted ps rows h.1)
