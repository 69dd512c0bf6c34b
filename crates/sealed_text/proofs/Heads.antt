-- Heads: the line at fault of those before the frames is the first that is.
use Rattle.std.proofs.Common.{◌≡◌, ℕ, ◌+◌, ◌^◌, ◌≤◌, ◌<◌, List, [], ◌∷◌, ◌++◌, length, Option, Some, Result, Ok, Err, refl, sym, ap, ◌∙◌, arith, inl, inr}
use Rattle.std.specs.Prelude.{codes, drop}
use Rattle.definitions.specs.declared.findings.Kind.{Kind}
use Rattle.definitions.specs.declared.findings.Kind.TheVariants.{TwoCommits}
use Rattle.definitions.specs.declared.limits.TheConstants.{GREATEST_PLAYER}
use Rattle.text_lines.specs.Lines.{line_of, one_within}
use Rattle.text_lines.specs.Reading.{line_at}
use Rattle.text_lines.proofs.Forms.{one_within-some}
use Rattle.text_lines.proofs.Steps.{bind_err, line_at_err, line_at_ok}
use Rattle.text_fields.specs.declared.fault.TextFault.{TextFault}
use Rattle.text_fields.specs.declared.fault.TextFault.TheVariants.{At}
use Rattle.evidence.specs.declared.head.Head.{Head}
use Rattle.evidence.specs.Text.{head_lines}
use Rattle.evidence.specs.Reading.{head_at, kind_said}

-- ---- faults

at_is : (m n : ℕ) → At m ≡ At n → m ≡ n
at_is m n e = cc

abbrev pub faulty_at : {A : Type 0} → ℕ → Result A TextFault
faulty_at n = Err (At n)

pub fault_number : {A : Type 0} (m n : ℕ) → faulty_at {A = A} m ≡ faulty_at {A = A} n → m ≡ n
fault_number m n e = cc

abbrev done : {A : Type 0} → A → Result A TextFault
done x = Ok x

pub no_fault : {A : Type 0} (x : A) (n : ℕ) → done x ≡ faulty_at n → ⊥
no_fault x n e = absurd cc

-- ---- the lines before those of the frames

-- The lines up to the one at fault, with which some head begins, and those from it on. The line is
-- at fault whatever follows it.
pub record IsHeadFault (version : ℕ) (lines : List (List ℕ)) (n : ℕ) : Type 0 where
  pub front : List (List ℕ)
  pub back : List (List ℕ)
  pub lines_are : lines ≡ front ++ back
  pub number : n ≡ length front + 1
  pub player : ℕ
  pub turn : ℕ
  pub kind : Kind
  pub player_fits : player ≤ GREATEST_PLAYER
  pub turn_fits : turn < 2 ^ 32
  pub more : List (List ℕ)
  pub begun : head_lines version player turn kind ≡ front ++ more
  pub faulty : (line : List ℕ) (others : List (List ℕ)) → back ≡ line ∷ others → (rest : List (List ℕ)) → head_at version (front ++ line ∷ rest) ≡ Err (At n)

abbrev version_said : (version : ℕ) → List ℕ → Option ℕ
version_said version = one_within (codes "evidence") version version

abbrev player_said : List ℕ → Option ℕ
player_said = one_within (codes "player") 0 GREATEST_PLAYER

abbrev turn_said : List ℕ → Option ℕ
turn_said = one_within (codes "turn") 0 4294967295

-- a line of a number that was read, and those after it
record TakesNumber (name : List ℕ) (low high : ℕ) (lines : List (List ℕ)) (v : ℕ × List (List ℕ)) : Type 0 where
  line : List ℕ
  lines_are : lines ≡ line ∷ v.1
  said : one_within name low high line ≡ Some v.0
  spelled : line ≡ line_of name (v.0 ∷ [])
  within : (low ≤ v.0) × (v.0 ≤ high)

number_read : (n : ℕ) (name : List ℕ) (low high : ℕ) (lines : List (List ℕ)) (v : ℕ × List (List ℕ)) → line_at (At n) (one_within name low high) lines ≡ Ok v → TakesNumber name low high lines v
number_read n name low high lines v e =
    let line = line_at_ok (At n) (one_within name low high) lines v.0 v.1 e in
    let number = one_within-some name low high line.0 v.0 line.2 in
    record { line = line.0; lines_are = line.1; said = line.2; spelled = number.0; within = (number.1, number.2) }

-- line 1 is at fault
first_fails : (version : ℕ) (lines : List (List ℕ)) (n : ℕ) → line_at (At 1) (version_said version) lines ≡ Err (At n) → IsHeadFault version lines n
unfolding head_at
first_fails version lines n h =
    let w = line_at_err (At 1) (version_said version) lines (At n) h in
    let number = at_is 1 n w.0 in
    record {
      front = [];
      back = lines;
      lines_are = refl;
      number = sym number;
      player = 0;
      turn = 0;
      kind = TwoCommits;
      player_fits = omega arith;
      turn_fits = omega arith;
      more = head_lines version 0 0 TwoCommits;
      begun = refl;
      faulty = λ line others same rest. rw (w.1 line others same) (ap (λ (k : ℕ). Err (At k)) number);
    }

-- the first line is spelled so
version_is : (version : ℕ) (lines : List (List ℕ)) (a : ℕ × List (List ℕ)) (v : TakesNumber (codes "evidence") version version lines a) → line_of (codes "evidence") (version ∷ []) ≡ v.line
version_is version lines a v =
    let low = v.within.0 in
    let high = v.within.1 in
    let one : a.0 ≡ version = omega arith in
    ap (λ (k : ℕ). line_of (codes "evidence") (k ∷ [])) (sym one) ∙ sym v.spelled

-- line 2 is at fault
second_fails : (version : ℕ) (lines : List (List ℕ)) (n : ℕ) (a : ℕ × List (List ℕ)) → line_at (At 1) (version_said version) lines ≡ Ok a → line_at (At 2) player_said a.1 ≡ Err (At n)
    → IsHeadFault version lines n
unfolding head_at
second_fails version lines n a e h =
    let v = number_read 1 (codes "evidence") version version lines a e in
    let w = line_at_err (At 2) player_said a.1 (At n) h in
    let number = at_is 2 n w.0 in
    let more : List (List ℕ) = drop 1 (head_lines version 0 0 TwoCommits) in
    record {
      front = v.line ∷ [];
      back = a.1;
      lines_are = v.lines_are;
      number = sym number;
      player = 0;
      turn = 0;
      kind = TwoCommits;
      player_fits = omega arith;
      turn_fits = omega arith;
      more = more;
      begun = ap (λ (l : List ℕ). l ∷ more) (version_is version lines a v);
      faulty = λ line others same rest. rw (v.said, w.1 line others same) (ap (λ (k : ℕ). Err (At k)) number);
    }

-- line 3 is
third_fails : (version : ℕ) (lines : List (List ℕ)) (n : ℕ) (a b : ℕ × List (List ℕ)) → line_at (At 1) (version_said version) lines ≡ Ok a → line_at (At 2) player_said a.1 ≡ Ok b
    → line_at (At 3) turn_said b.1 ≡ Err (At n) → IsHeadFault version lines n
unfolding head_at
third_fails version lines n a b e f h =
    let v = number_read 1 (codes "evidence") version version lines a e in
    let p = number_read 2 (codes "player") 0 GREATEST_PLAYER a.1 b f in
    let w = line_at_err (At 3) turn_said b.1 (At n) h in
    let number = at_is 3 n w.0 in
    let more : List (List ℕ) = drop 2 (head_lines version b.0 0 TwoCommits) in
    record {
      front = v.line ∷ p.line ∷ [];
      back = b.1;
      lines_are = v.lines_are ∙ ap (λ (ls : List (List ℕ)). v.line ∷ ls) p.lines_are;
      number = sym number;
      player = b.0;
      turn = 0;
      kind = TwoCommits;
      player_fits = p.within.1;
      turn_fits = omega arith;
      more = more;
      begun = ap (λ (l : List ℕ). l ∷ line_of (codes "player") (b.0 ∷ []) ∷ more) (version_is version lines a v) ∙ ap (λ (l : List ℕ). v.line ∷ l ∷ more) (sym p.spelled);
      faulty = λ line others same rest. rw (v.said, p.said, w.1 line others same) (ap (λ (k : ℕ). Err (At k)) number);
    }

-- line 4 is
fourth_fails : (version : ℕ) (lines : List (List ℕ)) (n : ℕ) (a b d : ℕ × List (List ℕ)) → line_at (At 1) (version_said version) lines ≡ Ok a → line_at (At 2) player_said a.1 ≡ Ok b
    → line_at (At 3) turn_said b.1 ≡ Ok d → line_at (At 4) kind_said d.1 ≡ Err (At n) → IsHeadFault version lines n
unfolding head_at
fourth_fails version lines n a b d e f g h =
    let v = number_read 1 (codes "evidence") version version lines a e in
    let p = number_read 2 (codes "player") 0 GREATEST_PLAYER a.1 b f in
    let t = number_read 3 (codes "turn") 0 4294967295 b.1 d g in
    let w = line_at_err (At 4) kind_said d.1 (At n) h in
    let number = at_is 4 n w.0 in
    let more : List (List ℕ) = drop 3 (head_lines version b.0 d.0 TwoCommits) in
    let most = t.within.1 in
    record {
      front = v.line ∷ p.line ∷ t.line ∷ [];
      back = d.1;
      lines_are = v.lines_are ∙ ap (λ (ls : List (List ℕ)). v.line ∷ ls) (p.lines_are ∙ ap (λ (ls : List (List ℕ)). p.line ∷ ls) t.lines_are);
      number = sym number;
      player = b.0;
      turn = d.0;
      kind = TwoCommits;
      player_fits = p.within.1;
      turn_fits = omega arith;
      more = more;
      begun = ap (λ (l : List ℕ). l ∷ line_of (codes "player") (b.0 ∷ []) ∷ line_of (codes "turn") (d.0 ∷ []) ∷ more) (version_is version lines a v)
          ∙ ap (λ (l : List ℕ). v.line ∷ l ∷ line_of (codes "turn") (d.0 ∷ []) ∷ more) (sym p.spelled) ∙ ap (λ (l : List ℕ). v.line ∷ p.line ∷ l ∷ more) (sym t.spelled);
      faulty = λ line others same rest. rw (v.said, p.said, t.said, w.1 line others same) (ap (λ (k : ℕ). Err (At k)) number);
    }

pub head_behind : (version : ℕ) (lines : List (List ℕ)) (n : ℕ) → head_at version lines ≡ Err (At n) → IsHeadFault version lines n
unfolding head_at
head_behind version lines n h =
    elim (bind_err (line_at (At 1) (version_said version) lines) _ (At n) h) [
      | inl fails ↦ first_fails version lines n fails
      | inr a ↦
          elim (bind_err (line_at (At 2) player_said a.0.1) _ (At n) a.2) [
            | inl fails ↦ second_fails version lines n a.0 a.1 fails
            | inr b ↦
                elim (bind_err (line_at (At 3) turn_said b.0.1) _ (At n) b.2) [
                  | inl fails ↦ third_fails version lines n a.0 b.0 a.1 b.1 fails
                  | inr d ↦
                      elim (bind_err (line_at (At 4) kind_said d.0.1) _ (At n) d.2) [
                        | inl fails ↦ fourth_fails version lines n a.0 b.0 d.0 a.1 b.1 d.1 fails
                        | inr k ↦ absurd (no_fault {A = Head × List (List ℕ)} _ n k.2)
                      ]
                ]
          ]
    ]
