-- How a change of a socket's row is a change of how its number stands.
use Rattle.std.proofs.Common.{Bool, true, false, ◌≡◌, ℕ, ◌==◌, List, [], ◌∷◌, ◌++◌, Option, Some, None, refl, sym, ap, subst, ◌∙◌, arith, if◌then◌else◌}
use Rattle.std.proofs.lemmas.Bool.Decides.{nat_tests}
use Rattle.socket_station.specs.declared.answers.Standing.{Standing}
use Rattle.socket_station.specs.declared.answers.Standing.TheVariants.{Fresh, Open, Closed}
use Rattle.memory_station.specs.Answers.{gave_mark}
use Rattle.memory_station.specs.HeldRows.{HeldRow, held_at, row_in, new_row, marked, closed, finished, seeming, refused}
use Rattle.memory_station.proofs.Tables.{same, differ}

-- a change of a row that keeps how it stands
pub record KeepsStanding (f : HeldRow → HeldRow) : Type 0 where
  pub number : (l : HeldRow) → (f l).number ≡ l.number
  pub standing : (l : HeldRow) → (f l).standing ≡ l.standing

at-number : (f : HeldRow → HeldRow) (b : Bool) (l : HeldRow) → (f l).number ≡ l.number → (if b then f l else l).number ≡ l.number
at-number f true l h = h
at-number f false l h = refl

at-standing : (f : HeldRow → HeldRow) (b : Bool) (l : HeldRow) → (f l).standing ≡ l.standing → (if b then f l else l).standing ≡ l.standing
at-standing f true l h = h
at-standing f false l h = refl

pub standing-kept : (f : HeldRow → HeldRow) (s n : ℕ) (rows : List HeldRow) → KeepsStanding f → (row_in (held_at s f rows) n).standing ≡ (row_in rows n).standing
standing-kept f s n [] k = refl
standing-kept f s n (l ∷ rows) k =
    ap (λ (m : ℕ). (if m == n then (if l.number == s then f l else l) else row_in (held_at s f rows) n).standing) (at-number f (l.number == s) l (k.number l))
    ∙ by-test (l.number == n) (standing-kept f s n rows k)
  where
    by-test : (b : Bool) → (row_in (held_at s f rows) n).standing ≡ (row_in rows n).standing → (if b then (if l.number == s then f l else l) else row_in (held_at s f rows) n).standing ≡ (if b then l else row_in rows n).standing
    by-test true r = at-standing f (l.number == s) l (k.standing l)
    by-test false r = r

closed-number : (b : Bool) (l : HeldRow) → (if b then closed l else l).number ≡ l.number
closed-number true l = refl
closed-number false l = refl

not-both : (a b c : ℕ) → (a == b) ≡ true → (b == c) ≡ false → (a == c) ≡ false
not-both a b c e h = let x : a ≡ b = grind (arith, nat_tests) in let P : ℕ → Type 0 = λ v. (v == c) ≡ false in subst P (sym x) h

both : (a b c : ℕ) → (a == b) ≡ true → (a == c) ≡ (b == c)
both a b c e = let x : a ≡ b = grind (arith, nat_tests) in ap (λ v. v == c) x

-- sockets of other numbers stay
standing-other : (s n : ℕ) (rows : List HeldRow) → (s == n) ≡ false → (row_in (held_at s (closed) rows) n).standing ≡ (row_in rows n).standing
standing-other s n [] d = refl
standing-other s n (l ∷ rows) d =
    ap (λ (m : ℕ). (if m == n then (if l.number == s then closed l else l) else row_in (held_at s (closed) rows) n).standing) (closed-number (l.number == s) l)
    ∙ by-s (l.number == s) refl (standing-other s n rows d)
  where
    by-n : (b : Bool) → (row_in (held_at s (closed) rows) n).standing ≡ (row_in rows n).standing → (if b then l else row_in (held_at s (closed) rows) n).standing ≡ (if b then l else row_in rows n).standing
    by-n true r = refl
    by-n false r = r

    by-s : (c : Bool) → (l.number == s) ≡ c → (row_in (held_at s (closed) rows) n).standing ≡ (row_in rows n).standing
        → (if l.number == n then (if c then closed l else l) else row_in (held_at s (closed) rows) n).standing ≡ (if l.number == n then l else row_in rows n).standing
    by-s true e r = let h : (l.number == n) ≡ false = both l.number s n e ∙ d in rw h r
    by-s false e r = by-n (l.number == n) r

-- a socket that was open is closed
pub standing-closed : (s n : ℕ) (rows : List HeldRow) → (row_in rows s).standing ≡ Open
    → (row_in (held_at s (closed) rows) n).standing ≡ (if s == n then Closed else (row_in rows n).standing)
standing-closed s n [] o = absurd (cc)
standing-closed s n (l ∷ rows) o =
    ap (λ (m : ℕ). (if m == n then (if l.number == s then closed l else l) else row_in (held_at s (closed) rows) n).standing) (closed-number (l.number == s) l)
    ∙ by-s (l.number == s) refl o (standing-closed s n rows) (standing-other s n rows)
  where
    hit : (b : Bool) → (s == n) ≡ b → ((s == n) ≡ false → (row_in (held_at s (closed) rows) n).standing ≡ (row_in rows n).standing)
        → (if b then closed l else row_in (held_at s (closed) rows) n).standing ≡ (if b then Closed else (if b then l else row_in rows n).standing)
    hit true e r = refl
    hit false e r = r e

    miss : (b : Bool) → (l.number == n) ≡ b → (l.number == s) ≡ false → (row_in (held_at s (closed) rows) n).standing ≡ (if s == n then Closed else (row_in rows n).standing)
        → (if b then l else row_in (held_at s (closed) rows) n).standing ≡ (if s == n then Closed else (if b then l else row_in rows n).standing)
    miss true e d r =
        let x : l.number ≡ n = grind (arith, nat_tests) in
        let h : (s == n) ≡ false = differ s n (λ z. absurd (let y : (l.number == s) ≡ true = same l.number s (x ∙ sym z) in let w : false ≡ true = sym d ∙ y in cc)) in
        rw h refl
    miss false e d r = r

    by-s : (c : Bool) → (l.number == s) ≡ c → (if c then l else row_in rows s).standing ≡ Open
        → ((row_in rows s).standing ≡ Open → (row_in (held_at s (closed) rows) n).standing ≡ (if s == n then Closed else (row_in rows n).standing))
        → ((s == n) ≡ false → (row_in (held_at s (closed) rows) n).standing ≡ (row_in rows n).standing)
        → (if l.number == n then (if c then closed l else l) else row_in (held_at s (closed) rows) n).standing ≡ (if s == n then Closed else (if l.number == n then l else row_in rows n).standing)
    by-s true e h r o = let x : (l.number == n) ≡ (s == n) = both l.number s n e in rw x (hit (s == n) refl o)
    by-s false e h r o = miss (l.number == n) refl e (r h)

-- a change of the pieces alone
pub keeps-pieces : (change : List (List ℕ) → List (List ℕ)) → KeepsStanding (λ (row : HeldRow). record row { pieces = change row.pieces })
keeps-pieces change = record { number = λ l. refl; standing = λ l. refl }

pub keeps-refused : KeepsStanding refused
keeps-refused = record { number = λ l. refl; standing = λ l. refl }

pub keeps-gave : (most : Option ℕ) → KeepsStanding (marked (gave_mark most))
keeps-gave None = record { number = λ l. refl; standing = λ l. refl }
keeps-gave (Some most) = record { number = λ l. refl; standing = λ l. refl }

pub keeps-finished : KeepsStanding finished
keeps-finished = record { number = λ l. refl; standing = λ l. refl }

pub keeps-seeming : KeepsStanding seeming
keeps-seeming = record { number = λ l. refl; standing = λ l. refl }

-- a socket that was brought stands as none did
pub standing-brought : (s n : ℕ) (rows : List HeldRow) → (row_in (rows ++ new_row s Fresh ∷ []) n).standing ≡ (row_in rows n).standing
standing-brought s n [] = by-test (s == n)
  where
    by-test : (b : Bool) → (if b then new_row s Fresh else new_row n Fresh).standing ≡ Fresh
    by-test true = refl
    by-test false = refl
standing-brought s n (l ∷ rows) = ap (λ (v : Standing). v) (by-test (l.number == n) (standing-brought s n rows))
  where
    by-test : (b : Bool) → (row_in (rows ++ new_row s Fresh ∷ []) n).standing ≡ (row_in rows n).standing
        → (if b then l else row_in (rows ++ new_row s Fresh ∷ []) n).standing ≡ (if b then l else row_in rows n).standing
    by-test true r = refl
    by-test false r = r
