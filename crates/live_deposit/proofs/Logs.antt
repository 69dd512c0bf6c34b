-- Logs: what the pieces say that a shelf gives of a log.
use Rattle.std.proofs.Common.{◌≡◌, ℕ, ◌+◌, ◌-◌, ◌<◌, ◌≤◌, true, false, Some, List, [], ◌∷◌, length, take, drop, refl, sym, ap, ◌∙◌, arith, length-drop}
use Rattle.std.proofs.Math.Seq.{take-length}
use Rattle.std.proofs.lemmas.Bool.{and_from, false_from_ne_true, le-leb, leb-true, lt-ltb}
use Rattle.std.proofs.lemmas.List.{drop-take, length-take, length-take-le, take-take}
use Rattle.std.proofs.lemmas.Slice.Eq.{bytes_eq-Decides}
use Rattle.definitions.specs.Lists.{is_empty}
use Rattle.definitions.specs.declared.limits.TheConstants.{LONGEST_LOG}
use Rattle.station.specs.Pieces.{GivesAt}
use Rattle.loop_rules.specs.Rules.{is_front}
use Rattle.deposit_rules.specs.Rules.{is_at_end}
use Rattle.live_deposit.specs.Logs.{log_of}

-- these bytes are the first ones of all, and there are some
pub record IsFirst (bytes all : List ℕ) : Type 0 where
  pub first : bytes ≡ take (length bytes) all
  pub some : 0 < length bytes

-- ---- the log's end

pub longest_end : (content : List ℕ) (at : ℕ) → LONGEST_LOG ≤ at → is_at_end (log_of content) (Some at) ≡ true
longest_end content at le = le-leb (length (log_of content)) at (let n = length-take LONGEST_LOG content in omega (arith, n, le))

pub ended_end : (content : List ℕ) (at : ℕ) → GivesAt (Some content) at (Some []) → is_at_end (log_of content) (Some at) ≡ true
ended_end content at gives =
    le-leb (length (log_of content)) at (let n = length-take LONGEST_LOG content in let e = gives.1 refl in omega (arith, n, e))

-- ---- a piece

pub piece_is : (content bytes : List ℕ) (at : ℕ) → GivesAt (Some content) at (Some bytes) → at + length bytes ≤ LONGEST_LOG → 0 < length bytes → IsFirst bytes (drop at (log_of content))
piece_is content bytes at gives few some = record {
  first = gives.0 ∙ sym (take-take (length bytes) (LONGEST_LOG - at) (drop at content) (omega (arith, few))) ∙ ap (take (length bytes)) (sym (drop-take at (LONGEST_LOG - at) content) ∙ ap (λ (n : ℕ). drop at (take n content)) same);
  some = some;
}
  where
    same : at + (LONGEST_LOG - at) ≡ LONGEST_LOG
    same = omega (arith, few)

empty_short : {X : Type 0} (xs : List X) → is_empty xs ≡ true → length xs ≡ 0
empty_short [] e = refl
empty_short (x ∷ xs) e = absurd (let h : false ≡ true = e in cc)

take_few : (n : ℕ) (xs : List ℕ) → length (take n xs) ≤ length xs
take_few n xs = let k = length-take n xs in omega (arith, k)

pub first_few : (bytes all : List ℕ) → IsFirst bytes all → 0 < length all
first_few bytes all f =
    let k = take_few (length bytes) all in
    let s = ap (λ (x : List ℕ). length x) f.first in
    let n = f.some in
    omega (arith, k, s, n)

pub first_some : (bytes all : List ℕ) → IsFirst bytes all → is_empty all ≡ false
first_some bytes all f = false_from_ne_true (is_empty all) (λ e. let n = empty_short all e in let s = first_few bytes all f in absurd (omega (arith, n, s)))

-- where a piece is there, the log isn't at its end
pub piece_open : (log bytes : List ℕ) (at : ℕ) → IsFirst bytes (drop at log) → is_at_end log (Some at) ≡ false
piece_open log bytes at f = false_from_ne_true (is_at_end log (Some at)) (λ e.
    let le = leb-true (length log) at e in
    let s = first_few bytes (drop at log) f in
    let d = length-drop at log in
    absurd (omega (arith, le, s, d)))

-- a front of these bytes is one of all
pub front_of : (bytes all : List ℕ) (n : ℕ) → IsFirst bytes all → 0 < n → n ≤ length bytes → is_front (take n bytes) all ≡ true
front_of bytes all n f some few =
    let long = length-take-le n bytes few in
    let same : take n bytes ≡ take (length (take n bytes)) all = ap (take n) f.first ∙ take-take n (length bytes) all few ∙ ap (λ (k : ℕ). take k all) (sym long) in
    and_from _ _ (lt-ltb 0 (length (take n bytes)) (omega (arith, long, some))) ((bytes_eq-Decides (take n bytes) (take (length (take n bytes)) all)).1 same)

-- all of them are first
pub first_all : (all : List ℕ) → is_empty all ≡ false → IsFirst all all
first_all [] e = absurd (let h : true ≡ false = e in cc)
first_all (b ∷ all) e = record { first = sym (take-length (b ∷ all)); some = omega arith }
