-- Finds: the line of one socket, after changes of the lines.
use Rattle.std.proofs.Common.{◌≡◌, ℕ, Bool, true, false, refl, sym, ap, subst, ◌∙◌, List, [], ◌∷◌, ◌++◌}
use Rattle.std.specs.Prelude.{Option, Some, None, ◌==◌, filter, find, map, if◌then◌else◌}
use Rattle.std.proofs.lemmas.Bool.{eqb-true, eq-eqb}
use Rattle.socket_lines.specs.declared.line.Line.{Line}
use Rattle.socket_lines.specs.Lines.{is_named, doomed}
use Rattle.loop_rules.specs.Tables.{in_lines}
use Rattle.loop_rules.specs.Hearing.{ousted}
use Rattle.loop_rules.specs.Told.{IsNotIn, Differ}

-- the line of the socket
abbrev pub line_in : (socket : ℕ) → List Line → Option Line
line_in n lines = find (λ l. l.socket == n) lines

-- so it is of the line, if there is one
abbrev pub IfLine : (Line → Type 0) → Option Line → Type 0
IfLine P None = Unit {0}
IfLine P (Some l) = P l

abbrev pub on_line : (Line → Line) → Option Line → Option Line
on_line g None = None
on_line g (Some l) = Some (g l)

-- the change keeps the socket
abbrev pub KeepsSocket : (Line → Line) → Type 0
KeepsSocket g = (l : Line) → (g l).socket ≡ l.socket

pub line_mapped : (n : ℕ) (g : Line → Line) → KeepsSocket g → (ls : List Line) → line_in n (map g ls) ≡ on_line g (line_in n ls)
line_mapped n g k [] = refl
line_mapped n g k (l ∷ ls) =
    ap (λ (x : ℕ). if x == n then Some (g l) else line_in n (map g ls)) (k l) ∙ go (l.socket == n) (line_mapped n g k ls)
  where
    go : (b : Bool) → line_in n (map g ls) ≡ on_line g (line_in n ls) → (if b then Some (g l) else line_in n (map g ls)) ≡ on_line g (if b then Some l else line_in n ls)
    go true e = refl
    go false e = e

-- the line that is found is of the socket
pub line_is : (n : ℕ) (ls : List Line) (l : Line) → line_in n ls ≡ Some l → l.socket ≡ n
line_is n [] l e = absurd (cc)
line_is n (m ∷ ls) l e = go (m.socket == n) refl e (line_is n ls l)
  where
    go : (b : Bool) → (m.socket == n) ≡ b → (if b then Some m else line_in n ls) ≡ Some l → (line_in n ls ≡ Some l → l.socket ≡ n) → l.socket ≡ n
    go true q r more = (let x : m ≡ l = cc in ap (λ (k : Line). k.socket) (sym x)) ∙ eqb-true m.socket n q
    go false q r more = more r

-- so it is of the line after a change that keeps the sockets
pub if_mapped : (P Q : Line → Type 0) (n : ℕ) (g : Line → Line) (ls : List Line) → KeepsSocket g → ((l : Line) → line_in n ls ≡ Some l → P l → Q (g l)) → IfLine P (line_in n ls) → IfLine Q (line_in n (map g ls))
if_mapped P Q n g ls k f p = subst (IfLine Q) (sym (line_mapped n g k ls)) (go (line_in n ls) refl p)
  where
    go : (o : Option Line) → line_in n ls ≡ o → IfLine P o → IfLine Q (on_line g o)
    go None e x = tt
    go (Some l) e x = f l e x

-- a change of the lines of one socket
abbrev pub at_socket : ℕ → (Line → Line) → Line → Line
at_socket m change l = if l.socket == m then change l else l

pub keeps_at : (m : ℕ) (change : Line → Line) → ((l : Line) → l.socket ≡ m → (change l).socket ≡ l.socket) → KeepsSocket (at_socket m change)
keeps_at m change k l = go (l.socket == m) refl
  where
    go : (b : Bool) → (l.socket == m) ≡ b → (if b then change l else l).socket ≡ l.socket
    go true e = k l (eqb-true l.socket m e)
    go false e = refl

-- the line of the socket itself is changed
pub if_own : (P Q : Line → Type 0) (n : ℕ) (change : Line → Line) (ls : List Line) → ((l : Line) → l.socket ≡ n → (change l).socket ≡ l.socket) →
    ((l : Line) → line_in n ls ≡ Some l → P l → Q (change l)) → IfLine P (line_in n ls) → IfLine Q (line_in n (in_lines n change ls))
if_own P Q n change ls k f p =
    if_mapped P Q n (at_socket n change) ls (keeps_at n change k)
    (λ l e x. subst Q (sym (ap (λ (b : Bool). if b then change l else l) (eq-eqb l.socket n (line_is n ls l e)))) (f l e x)) p

-- the line of another one is
pub if_other : (P : Line → Type 0) (n m : ℕ) (change : Line → Line) (ls : List Line) → (n == m) ≡ false → ((l : Line) → l.socket ≡ m → (change l).socket ≡ l.socket) →
    IfLine P (line_in n ls) → IfLine P (line_in n (in_lines m change ls))
if_other P n m change ls other k p =
    if_mapped P P n (at_socket m change) ls (keeps_at m change k)
    (λ l e x.
    let not_it : (l.socket == m) ≡ false = ap (λ (y : ℕ). y == m) (line_is n ls l e) ∙ other in
    subst P (sym (ap (λ (b : Bool). if b then change l else l) not_it)) x) p

-- one or the other
pub if_either : (P : Line → Type 0) (n m : ℕ) (change : Line → Line) (ls : List Line) → ((l : Line) → (change l).socket ≡ l.socket) → ((l : Line) → P l → P (change l)) →
    IfLine P (line_in n ls) → IfLine P (line_in n (in_lines m change ls))
if_either P n m change ls k f p =
    if_mapped P P n (at_socket m change) ls (keeps_at m change (λ l e. k l)) (λ l e x. go l (l.socket == m) x) p
  where
    go : (l : Line) (b : Bool) → P l → P (if b then change l else l)
    go l true x = f l x
    go l false x = x

pub ousted_keeps : (q : ℕ) → KeepsSocket (ousted q)
ousted_keeps q l = go (is_named q l)
  where
    go : (b : Bool) → (if b then doomed l else l).socket ≡ l.socket
    go true = refl
    go false = refl

pub if_ousted : (P : Line → Type 0) (n q : ℕ) (ls : List Line) → ((l : Line) → P l → P (doomed l)) → IfLine P (line_in n ls) → IfLine P (line_in n (map (ousted q) ls))
if_ousted P n q ls f p = if_mapped P P n (ousted q) ls (ousted_keeps q) (λ l e x. go l (is_named q l) x) p
  where
    go : (l : Line) (b : Bool) → P l → P (if b then doomed l else l)
    go l true x = f l x
    go l false x = x

-- a line more
pub if_more : (P : Line → Type 0) (n : ℕ) (l : Line) (ls : List Line) → ((l.socket == n) ≡ true → P l) → IfLine P (line_in n ls) → IfLine P (line_in n (ls ++ l ∷ []))
if_more P n l [] f p = go (l.socket == n) refl
  where
    go : (b : Bool) → (l.socket == n) ≡ b → IfLine P (if b then Some l else None)
    go true e = f e
    go false e = tt
if_more P n l (x ∷ ls) f p = go (x.socket == n) p (if_more P n l ls f)
  where
    go : (b : Bool) → IfLine P (if b then Some x else line_in n ls) → (IfLine P (line_in n ls) → IfLine P (line_in n (ls ++ l ∷ []))) →
        IfLine P (if b then Some x else line_in n (ls ++ l ∷ []))
    go true y more = y
    go false y more = more y

-- the closed lines go
none_open : (n m : ℕ) (ls : List Line) → m ≡ n → IsNotIn m ls → line_in n (filter (λ l. l.is_open) ls) ≡ None
none_open n m [] e d = refl
none_open n m (x ∷ ls) e d = open_or x.is_open (none_open n m ls e d.1)
  where
    other : (b : Bool) → (x.socket == n) ≡ b → line_in n (filter (λ l. l.is_open) ls) ≡ None → (if b then Some x else line_in n (filter (λ l. l.is_open) ls)) ≡ None
    other true w r = absurd (d.0 (eqb-true x.socket n w ∙ sym e))
    other false w r = r

    open_or : (b : Bool) → line_in n (filter (λ l. l.is_open) ls) ≡ None → line_in n (if b then x ∷ filter (λ l. l.is_open) ls else filter (λ l. l.is_open) ls) ≡ None
    open_or true r = other (x.socket == n) refl r
    open_or false r = r

pub if_open : (P : Line → Type 0) (n : ℕ) (ls : List Line) → Differ ls → IfLine P (line_in n ls) → IfLine P (line_in n (filter (λ l. l.is_open) ls))
if_open P n [] d p = tt
if_open P n (x ∷ ls) d p = go x.is_open (x.socket == n) refl p (if_open P n ls d.1)
  where
    rest : List Line
    rest = filter (λ l. l.is_open) ls

    gone : (b : Bool) → (x.socket == n) ≡ b → IfLine P (if b then Some x else line_in n ls) → (IfLine P (line_in n ls) → IfLine P (line_in n rest)) → IfLine P (line_in n rest)
    gone true e y more = subst (IfLine P) (sym (none_open n x.socket ls (eqb-true x.socket n e) d.0)) tt
    gone false e y more = more y

    kept : (b : Bool) → IfLine P (if b then Some x else line_in n ls) → (IfLine P (line_in n ls) → IfLine P (line_in n rest)) → IfLine P (if b then Some x else line_in n rest)
    kept true y more = y
    kept false y more = more y

    go : (o b : Bool) → (x.socket == n) ≡ b → IfLine P (if b then Some x else line_in n ls) → (IfLine P (line_in n ls) → IfLine P (line_in n rest)) →
        IfLine P (line_in n (if o then x ∷ rest else rest))
    go true b e y more = subst (λ (c : Bool). IfLine P (if c then Some x else line_in n rest)) (sym e) (kept b y more)
    go false b e y more = gone b e y more
