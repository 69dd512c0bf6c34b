-- Faulty: the line that is named is the first at fault.
use Rattle.std.proofs.Common.{◌≡◌, ℕ, zero, suc, ◌+◌, ◌-◌, ◌≤◌, ◌<◌, true, List, [], ◌∷◌, length, take, Option, Some, None, Result, Ok, Err, refl, sym, ap, subst, ◌∙◌, arith, inl, inr}
use Rattle.std.specs.Prelude.{is_some, slice_get}
use Rattle.definitions.specs.declared.world.Move.{Move}
use Rattle.definitions.specs.Lists.{EachIs}
use Rattle.text_lines.specs.Lines.{ended_lines_of}
use Rattle.text_lines.specs.Reading.{◌>>=◌, ends_at, fault_of}
use Rattle.text_lines.proofs.Steps.{bind_err}
use Rattle.text_fields.specs.declared.fault.TextFault.{TextFault}
use Rattle.text_fields.specs.declared.fault.TextFault.TheVariants.{At}
use Rattle.pilots.specs.Laws.{IsFirstFault}
use Rattle.pilots.specs.Scripts.{move_said, moves_at, script_at, script_fault}

-- so many lines are read before the fault
record Fails (k m : ℕ) (lines : List (List ℕ)) (n : ℕ) : Type 0 where
  count : ℕ
  number : n ≡ m + count
  within : count ≤ k
  stand : count ≤ length lines
  before : EachIs (λ line. is_some (move_said line) ≡ true) (take count lines)
  faulty : count < k → (line : List ℕ) → slice_get lines count ≡ Some line → move_said line ≡ None
  past : count ≡ k → count < length lines

same_number : (a n : ℕ) → At a ≡ At n → a ≡ n
same_number a n e = cc

err_number : {A : Type 0} (a n : ℕ) (r : Result A TextFault) → r ≡ Err (At a) → r ≡ Err (At n) → a ≡ n
err_number a n r x y = let e : At a ≡ At n = cc in same_number a n e

fails : (k m : ℕ) (lines : List (List ℕ)) (n : ℕ) → moves_at k m lines ≡ Err (At n) → Fails k m lines n
unfolding moves_at
fails zero m [] n e = absurd cc
fails zero m (line ∷ lines) n e =
    let same = err_number {A = List Move} m n (ends_at (At m) (line ∷ lines)) refl e in
    record { count = 0; number = omega arith; within = omega arith; stand = omega arith; before = tt; faulty = λ lt. absurd (omega arith); past = λ is. omega arith }
fails (suc k) m [] n e =
    let same = err_number {A = List Move} m n (moves_at (suc k) m []) refl e in
    record { count = 0; number = omega arith; within = omega arith; stand = omega arith; before = tt; faulty = λ lt line there. absurd cc; past = λ is. absurd (omega arith) }
fails (suc k) m (line ∷ lines) n e = by_line (move_said line) refl (fails k (suc m) lines n)
  where
    never : {P : Type 0} {mv : Move} (others : List Move) → Ok (mv ∷ others) ≡ Err (At n) → P
    never others h = absurd cc

    by_line : (o : Option Move) → move_said line ≡ o → (moves_at k (suc m) lines ≡ Err (At n) → Fails k (suc m) lines n) → Fails (suc k) m (line ∷ lines) n
    by_line None none ih =
        let bad : moves_at (suc k) m (line ∷ lines) ≡ Err (At m) = rw none refl in
        let same = err_number {A = List Move} m n (moves_at (suc k) m (line ∷ lines)) bad e in
        record { count = 0; number = omega arith; within = omega arith; stand = omega arith; before = tt; faulty = λ lt other there. (let is : line ≡ other = cc in ap move_said (sym is) ∙ none); past = λ is. absurd (omega arith) }
    by_line (Some mv) some ih =
        let read : moves_at (suc k) m (line ∷ lines) ≡ (moves_at k (suc m) lines >>= λ (others : List Move). Ok (mv ∷ others)) = rw some refl in
        let rest : moves_at k (suc m) lines ≡ Err (At n) = elim (bind_err (moves_at k (suc m) lines) (λ (others : List Move). Ok (mv ∷ others)) (At n) (sym read ∙ e)) [
          | inl here ↦ here
          | inr later ↦ never later.0 later.2
        ] in
        let f = ih rest in
        record {
          count = suc f.count;
          number = omega (arith, f.number);
          within = omega (arith, f.within);
          stand = omega (arith, f.stand);
          before = (ap is_some some, f.before);
          faulty = λ lt. f.faulty (omega arith);
          past = λ is. (let h = f.past (omega arith) in omega arith);
        }

pub first_fault : (turns : ℕ) (text : List ℕ) (n : ℕ) → script_fault turns text ≡ Some (At n) → IsFirstFault turns (ended_lines_of text) n
first_fault turns text n fault =
    let f = fails turns 1 (ended_lines_of text) n (is_fault (script_at turns text) fault) in
    let before : n - 1 ≡ f.count = omega (arith, f.number) in
    record {
      number = (omega (arith, f.number), omega (arith, f.number, f.within));
      stand = omega (arith, f.number, f.stand);
      before = subst (λ c. EachIs (λ line. is_some (move_said line) ≡ true) (take c (ended_lines_of text))) (sym before) f.before;
      faulty = λ few line there. f.faulty (omega (arith, f.number)) line (ap (slice_get (ended_lines_of text)) (sym before) ∙ there);
      past = λ is. (let h = f.past (omega (arith, f.number)) in omega (arith, f.number));
    }
  where
    is_fault : (r : Result (List Move) TextFault) → fault_of r ≡ Some (At n) → r ≡ Err (At n)
    is_fault (Ok x) e = absurd cc
    is_fault (Err d) e = let same : d ≡ At n = cc in ap (λ (x : TextFault). Err x) same
