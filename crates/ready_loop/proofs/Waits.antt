-- Waits: whether own bytes wait, socket by socket.
use Rattle.std.proofs.Common.{◌≡◌, ℕ, zero, suc, ◌+◌, ◌<◌, ◌≤◌, Bool, true, false, refl, sym, ap, ◌∙◌, List, [], ◌∷◌, arith, length, drop}
use Rattle.std.specs.Prelude.{Some, ◌||◌, slice_get}
use Rattle.std.specs.List.{list_any}
use Rattle.socket_lines.specs.declared.line.Line.{Line}
use Rattle.socket_lines.specs.Seats.{lacks}
use Rattle.loop_rules.specs.Tables.{Table}
use Rattle.loop_rules.specs.Licence.{has_bytes, bytes_wait}

-- the first of those that are left
any_at : (p : Line → Bool) (ls : List Line) (k : ℕ) (r : Bool) → k < length ls → ((l : Line) → slice_get ls k ≡ Some l → r ≡ p l) → list_any p (drop k ls) ≡ (r || list_any p (drop (suc k) ls))
any_at p [] k r lt is = absurd (omega (arith, lt))
any_at p (l ∷ ls) zero r lt is = ap (λ (b : Bool). b || list_any p ls) (sym (is l refl))
any_at p (l ∷ ls) (suc k) r lt is = any_at p ls k r (omega (arith, lt)) is

or_true : (a b : Bool) → b ≡ true → (a || b) ≡ true
or_true true b e = refl
or_true false b e = e

or_false : (a b : Bool) → b ≡ false → (a || b) ≡ a
or_false true b e = refl
or_false false b e = e

none_left : (p : Line → Bool) (ls : List Line) (k : ℕ) → length ls ≤ k → list_any p (drop k ls) ≡ false
none_left p [] zero le = refl
none_left p [] (suc k) le = refl
none_left p (l ∷ ls) zero le = absurd (omega (arith, le))
none_left p (l ∷ ls) (suc k) le = none_left p ls k (omega (arith, le))

pub waits_here : (made : ℕ) (t : Table) (k : ℕ) (r : Bool) → k < length t.lines → ((l : Line) → slice_get t.lines k ≡ Some l → r ≡ has_bytes made t l) →
    list_any (has_bytes made t) t.lines ≡ list_any (has_bytes made t) (drop k t.lines) → r ≡ true → true ≡ bytes_wait made t
waits_here made t k r lt is left sure =
    sym (or_true (list_any (lacks made) t.seats) (list_any (has_bytes made t) t.lines)
    (left ∙ any_at (has_bytes made t) t.lines k r lt is ∙ ap (λ (b : Bool). b || list_any (has_bytes made t) (drop (suc k) t.lines)) sure))

pub waits_behind : (made : ℕ) (t : Table) (k : ℕ) (r : Bool) → k < length t.lines → ((l : Line) → slice_get t.lines k ≡ Some l → r ≡ has_bytes made t l) →
    list_any (has_bytes made t) t.lines ≡ list_any (has_bytes made t) (drop k t.lines) → r ≡ false → list_any (has_bytes made t) t.lines ≡ list_any (has_bytes made t) (drop (k + 1) t.lines)
waits_behind made t k r lt is left none =
    left ∙ any_at (has_bytes made t) t.lines k r lt is ∙ ap (λ (b : Bool). b || list_any (has_bytes made t) (drop (suc k) t.lines)) none
    ∙ ap (λ (n : ℕ). list_any (has_bytes made t) (drop n t.lines)) (let e : suc k ≡ k + 1 = omega arith in e)

pub waits_none : (made : ℕ) (t : Table) (k : ℕ) (q : Bool) → length t.lines ≤ k → list_any (has_bytes made t) t.lines ≡ list_any (has_bytes made t) (drop k t.lines) → q ≡ list_any (lacks made) t.seats → q ≡ bytes_wait made t
waits_none made t k q le left is = is ∙ sym (or_false (list_any (lacks made) t.seats) (list_any (has_bytes made t) t.lines) (left ∙ none_left (has_bytes made t) t.lines k le))
