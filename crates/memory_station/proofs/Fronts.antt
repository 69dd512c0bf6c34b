-- What stands at the front of a socket, and how it goes on.
use Rattle.std.proofs.Common.{zero, suc, ◌≢◌, ◌<◌, ◌≤◌, Bool, true, false, ◌≡◌, ℕ, ◌+◌, ◌==◌, nat_lt, List, [], ◌∷◌, ◌++◌, Some, length, drop, map, refl, sym, ap, subst, ◌∙◌, arith, append-nil, get_or, slice_get, if◌then◌else◌, length-drop, length-append, drop-cons, add-one}
use Rattle.std.proofs.lemmas.Bool.Decides.{nat_tests}
use Rattle.std.proofs.lemmas.List.{drop-append-le, drop-drop}
use Rattle.memory_station.specs.declared.rows.Row.{Row}
use Rattle.memory_station.specs.declared.rows.Piece.{Piece}
use Rattle.memory_station.specs.HeldRows.{held_at, with_piece, taken, pieces_behind}
use Rattle.memory_station.specs.Rows.{pieces_at, cut_front, raw_pieces, held_row, IsFront, AreFull, IsInside, IsRowSound, AreSound}
use Rattle.memory_station.proofs.Tables.{same, differ}

slice_get-there : (ps : List Piece) (k : ℕ) (x : Piece) → k < length ps → x ≡ get_or ps k x → slice_get ps k ≡ Some x
slice_get-there [] k x h g = absurd (omega arith)
slice_get-there (p ∷ ps) zero x h g = ap (λ (v : Piece). Some v) (sym g)
slice_get-there (p ∷ ps) (suc k) x h g = slice_get-there ps k x (omega arith) g

pub get_or-there : (ps : List Piece) (k : ℕ) (x y : Piece) → slice_get ps k ≡ Some x → y ≡ get_or ps k y → y ≡ x
get_or-there [] k x y h g = absurd (cc)
get_or-there (p ∷ ps) zero x y h g = (let e : p ≡ x = cc in g ∙ e)
get_or-there (p ∷ ps) (suc k) x y h g = get_or-there ps k x y h g

pub below-there : (ps : List Piece) (k : ℕ) (x : Piece) → slice_get ps k ≡ Some x → k < length ps
below-there [] k x h = absurd (cc)
below-there (p ∷ ps) zero x h = omega arith
below-there (p ∷ ps) (suc k) x h = let r = below-there ps k x h in omega (arith, r)

pub split-at : (ps : List Piece) (n k : ℕ) (x : Piece) → k < length ps → x ≡ get_or ps k x → drop k ps ≡ x ∷ drop (k + 1) ps
split-at ps n k x h g = drop-cons ps k x h ∙ (ap (λ v. v ∷ drop (suc k) ps) (sym g) ∙ ap (λ j. x ∷ drop j ps) (sym (add-one k)))

pub IsFront-here : (ps : List Piece) (n from k : ℕ) (x : Piece) → k < length ps → from ≤ k → x ≡ get_or ps k x → x.socket ≡ n
    → pieces_at n (drop from ps) ≡ pieces_at n (drop k ps) → IsFront ps n from k
IsFront-here ps n from k x h b g s e =
    let t = same x.socket n s in
    let one : pieces_at n (x ∷ drop (k + 1) ps) ≡ x.bytes ∷ pieces_at n (drop (k + 1) ps) = rw t refl in
    record { piece = x; there = slice_get-there ps k x h g; behind = b; split = e ∙ (ap (pieces_at n) (split-at ps n k x h g) ∙ one) }

pub pieces_at-next : (ps : List Piece) (n k : ℕ) (x : Piece) → k < length ps → x ≡ get_or ps k x → x.socket ≢ n
    → pieces_at n (drop k ps) ≡ pieces_at n (drop (k + 1) ps)
pieces_at-next ps n k x h g s =
    let t = differ x.socket n s in
    let one : pieces_at n (x ∷ drop (k + 1) ps) ≡ pieces_at n (drop (k + 1) ps) = rw t refl in
    ap (pieces_at n) (split-at ps n k x h g) ∙ one

-- the front piece of a row, as it stands at its place
pub record FrontFacts (ps : List Piece) (l : Row) (k : ℕ) (x : Piece) : Type 0 where
  pub at : l.at < length x.bytes
  pub place : k < length ps
  pub raw : raw_pieces ps l ≡ x.bytes ∷ pieces_at l.number (drop (k + 1) ps)
  pub full : AreFull (pieces_at l.number (drop (k + 1) ps))

pub front-facts : (ps : List Piece) (l : Row) (k : ℕ) (x : Piece) → IsRowSound ps l → IsFront ps l.number l.from k → x ≡ get_or ps k x → FrontFacts ps l k x
front-facts ps l k x s f g =
    let e : x ≡ f.piece = get_or-there ps k f.piece x f.there g in
    let raw : raw_pieces ps l ≡ x.bytes ∷ pieces_at l.number (drop (k + 1) ps) = f.split ∙ ap (λ (v : Piece). v.bytes ∷ pieces_at l.number (drop (k + 1) ps)) (sym e) in
    let P : List (List ℕ) → Type 0 = λ r. IsInside l.at r in
    let i : IsInside l.at (x.bytes ∷ pieces_at l.number (drop (k + 1) ps)) = subst P raw s.inside in
    record { at = i.0; place = below-there ps k f.piece f.there; raw = raw; full = i.1 }

pub front-bytes : (ps : List Piece) (l : Row) (k : ℕ) (x : Piece) → FrontFacts ps l k x → (held_row ps l).pieces ≡ drop l.at x.bytes ∷ pieces_at l.number (drop (k + 1) ps)
front-bytes ps l k x f = ap (cut_front l.at) f.raw

cut_front-zero : (r : List (List ℕ)) → cut_front 0 r ≡ r
cut_front-zero [] = refl
cut_front-zero (p ∷ r) = refl

inside-zero : (r : List (List ℕ)) → AreFull r → IsInside 0 r
inside-zero [] h = refl
inside-zero (p ∷ r) h = h

-- some of the bytes of the first piece are taken
pub held-taken-some : (ps : List Piece) (l : Row) (k n : ℕ) (x : Piece) → FrontFacts ps l k x → n < length (drop l.at x.bytes)
    → held_row ps (record l { at = l.at + n }) ≡ taken n (held_row ps l)
held-taken-some ps l k n x f h =
    let t : nat_lt n (length (drop l.at x.bytes)) ≡ true = grind (arith, nat_tests) in
    let tail = pieces_at l.number (drop (k + 1) ps) in
    let some : pieces_behind n (drop l.at x.bytes ∷ tail) ≡ drop n (drop l.at x.bytes) ∷ tail = rw t refl in
    let e : cut_front (l.at + n) (raw_pieces ps l) ≡ pieces_behind n (cut_front l.at (raw_pieces ps l)) =
    ap (cut_front (l.at + n)) f.raw ∙ (ap (λ d. d ∷ tail) (sym (drop-drop n l.at x.bytes)) ∙ (sym some ∙ ap (λ r. pieces_behind n (cut_front l.at r)) (sym f.raw))) in
    ap (λ (r : List (List ℕ)). record (held_row ps l) { pieces = r }) e

pub sound-taken-some : (ps : List Piece) (l : Row) (k n : ℕ) (x : Piece) → IsRowSound ps l → FrontFacts ps l k x → n < length (drop l.at x.bytes)
    → IsRowSound ps (record l { at = l.at + n })
sound-taken-some ps l k n x s f h =
    let P : List (List ℕ) → Type 0 = λ r. IsInside (l.at + n) r in
    let d : l.at + n < length x.bytes = (let e = length-drop l.at x.bytes in omega (arith, e)) in
    record { from = s.from; inside = subst P (sym f.raw) (d, f.full) }

-- the rest of the first piece is taken
pub held-taken-all : (ps : List Piece) (l : Row) (k n : ℕ) (x : Piece) → FrontFacts ps l k x → length (drop l.at x.bytes) ≤ n
    → held_row ps (record l { from = k + 1; at = 0 }) ≡ taken n (held_row ps l)
held-taken-all ps l k n x f h =
    let t : nat_lt n (length (drop l.at x.bytes)) ≡ false = grind (arith, nat_tests) in
    let tail = pieces_at l.number (drop (k + 1) ps) in
    let all : pieces_behind n (drop l.at x.bytes ∷ tail) ≡ tail = rw t refl in
    let e : cut_front 0 tail ≡ pieces_behind n (cut_front l.at (raw_pieces ps l)) =
    cut_front-zero tail ∙ (sym all ∙ ap (λ r. pieces_behind n (cut_front l.at r)) (sym f.raw)) in
    ap (λ (r : List (List ℕ)). record (held_row ps l) { pieces = r }) e

pub sound-taken-all : (ps : List Piece) (l : Row) (k : ℕ) (x : Piece) → FrontFacts ps l k x → IsRowSound ps (record l { from = k + 1; at = 0 })
sound-taken-all ps l k x f =
    let p = f.place in
    record { from = omega (arith, p); inside = inside-zero (pieces_at l.number (drop (k + 1) ps)) f.full }

-- one more piece
pieces_at-append : (n : ℕ) (xs ys : List Piece) → pieces_at n (xs ++ ys) ≡ pieces_at n xs ++ pieces_at n ys
pieces_at-append n [] ys = refl
pieces_at-append n (x ∷ xs) ys = by-test (x.socket == n) x.bytes (pieces_at n (xs ++ ys)) (pieces_at n xs) (pieces_at n ys) (pieces_at-append n xs ys)
  where
    by-test : (b : Bool) (p : List ℕ) (all front back : List (List ℕ)) → all ≡ front ++ back → (if b then p ∷ all else all) ≡ (if b then p ∷ front else front) ++ back
    by-test true p all front back e = ap (λ r. p ∷ r) e
    by-test false p all front back e = e

raw-more : (ps : List Piece) (p : Piece) (l : Row) → l.from ≤ length ps → raw_pieces (ps ++ p ∷ []) l ≡ raw_pieces ps l ++ pieces_at l.number (p ∷ [])
raw-more ps p l h = ap (pieces_at l.number) (drop-append-le l.from ps (p ∷ []) h) ∙ pieces_at-append l.number (drop l.from ps) (p ∷ [])

cut_front-more : (at : ℕ) (r : List (List ℕ)) (b : List ℕ) → IsInside at r → cut_front at (r ++ b ∷ []) ≡ cut_front at r ++ b ∷ []
cut_front-more at [] b i = ap (λ n. drop n b ∷ []) i
cut_front-more at (p ∷ r) b i = refl

IsInside-more : (at : ℕ) (r : List (List ℕ)) (b : List ℕ) → 0 < length b → IsInside at r → IsInside at (r ++ b ∷ [])
IsInside-more at [] b h i = (omega (arith, h, i), tt)
IsInside-more at (p ∷ r) b h i = (i.0, full-more r b h i.1)
  where
    full-more : (r : List (List ℕ)) (b : List ℕ) → 0 < length b → AreFull r → AreFull (r ++ b ∷ [])
    full-more [] b h f = (h, tt)
    full-more (p ∷ r) b h f = (f.0, full-more r b h f.1)

eq-swap : (m n : ℕ) → (m == n) ≡ (n == m)
eq-swap m n = grind (arith, nat_tests)

held-more : (ps : List Piece) (p : Piece) (l : Row) → IsRowSound ps l
    → held_row (ps ++ p ∷ []) l ≡ (if l.number == p.socket then with_piece p.bytes (held_row ps l) else held_row ps l)
held-more ps p l s =
    ap (λ (r : List (List ℕ)). record (held_row ps l) { pieces = cut_front l.at r }) (raw-more ps p l s.from)
    ∙ (ap (λ (b : Bool). record (held_row ps l) { pieces = cut_front l.at (raw_pieces ps l ++ (if b then p.bytes ∷ [] else [])) }) (eq-swap p.socket l.number)
    ∙ by-test (l.number == p.socket))
  where
    by-test : (b : Bool) → record (held_row ps l) { pieces = cut_front l.at (raw_pieces ps l ++ (if b then p.bytes ∷ [] else [])) } ≡ (if b then with_piece p.bytes (held_row ps l) else held_row ps l)
    by-test true = ap (λ (r : List (List ℕ)). record (held_row ps l) { pieces = r }) (cut_front-more l.at (raw_pieces ps l) p.bytes s.inside)
    by-test false = ap (λ (r : List (List ℕ)). record (held_row ps l) { pieces = cut_front l.at r }) (append-nil (raw_pieces ps l))

pub held_at-more : (ps : List Piece) (p : Piece) (rows : List Row) → AreSound ps rows
    → map (held_row (ps ++ p ∷ [])) rows ≡ held_at p.socket (with_piece p.bytes) (map (held_row ps) rows)
held_at-more ps p [] s = refl
held_at-more ps p (l ∷ rows) s =
    ap (λ v. v ∷ map (held_row (ps ++ p ∷ [])) rows) (held-more ps p l s.0)
    ∙ ap (λ vs. (if l.number == p.socket then with_piece p.bytes (held_row ps l) else held_row ps l) ∷ vs) (held_at-more ps p rows s.1)

sound-more : (ps : List Piece) (p : Piece) (l : Row) → 0 < length p.bytes → IsRowSound ps l → IsRowSound (ps ++ p ∷ []) l
sound-more ps p l h s =
    let P : List (List ℕ) → Type 0 = λ r. IsInside l.at r in
    let from = s.from in
    record { from = (let e = length-append ps (p ∷ []) in omega (arith, e, from)); inside = subst P (sym (raw-more ps p l s.from)) (by-test (p.socket == l.number)) }
  where
    by-test : (b : Bool) → IsInside l.at (raw_pieces ps l ++ (if b then p.bytes ∷ [] else []))
    by-test true = IsInside-more l.at (raw_pieces ps l) p.bytes h s.inside
    by-test false = let P : List (List ℕ) → Type 0 = λ r. IsInside l.at r in subst P (sym (append-nil (raw_pieces ps l))) s.inside

pub AreSound-more : (ps : List Piece) (p : Piece) (rows : List Row) → 0 < length p.bytes → AreSound ps rows → AreSound (ps ++ p ∷ []) rows
AreSound-more ps p [] h s = tt
AreSound-more ps p (l ∷ rows) h s = (sound-more ps p l h s.0, AreSound-more ps p rows h s.1)

-- a new row has nothing to be read
pub raw-new : (ps : List Piece) (n : ℕ) → pieces_at n (drop (length ps) ps) ≡ []
raw-new ps n = ap (pieces_at n) (drop-all ps)
  where
    drop-all : (ps : List Piece) → drop (length ps) ps ≡ []
    drop-all [] = refl
    drop-all (p ∷ ps) = drop-all ps

-- what a take leaves of a row
pub record TakenFacts (ps : List Piece) (l : Row) (n : ℕ) (y : Row) : Type 0 where
  pub held : held_row ps y ≡ taken n (held_row ps l)
  pub sound : IsRowSound ps y
  pub number : y.number ≡ l.number

pub taken-facts : (ps : List Piece) (l : Row) (k n left : ℕ) (x : Piece) (y : Row) → IsRowSound ps l → FrontFacts ps l k x → left ≡ length (drop l.at x.bytes)
    → y ≡ (if nat_lt n left then record l { at = l.at + n } else record l { from = k + 1; at = 0 }) → TakenFacts ps l n y
taken-facts ps l k n left x y s f e is = by-test (nat_lt n left) refl is
  where
    by-test : (b : Bool) → nat_lt n left ≡ b → y ≡ (if b then record l { at = l.at + n } else record l { from = k + 1; at = 0 }) → TakenFacts ps l n y
    by-test true t i =
        let h : n < left = grind (arith, nat_tests) in
        let h' : n < length (drop l.at x.bytes) = omega (arith, h, e) in
        let P : Row → Type 0 = λ v. IsRowSound ps v in
        record {
          held = ap (held_row ps) i ∙ held-taken-some ps l k n x f h';
          sound = subst P (sym i) (sound-taken-some ps l k n x s f h');
          number = ap (λ (v : Row). v.number) i;
        }
    by-test false t i =
        let h : left ≤ n = grind (arith, nat_tests) in
        let h' : length (drop l.at x.bytes) ≤ n = omega (arith, h, e) in
        let P : Row → Type 0 = λ v. IsRowSound ps v in
        record {
          held = ap (held_row ps) i ∙ held-taken-all ps l k n x f h';
          sound = subst P (sym i) (sound-taken-all ps l k x f);
          number = ap (λ (v : Row). v.number) i;
        }
