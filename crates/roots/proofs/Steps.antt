-- Steps: roots are read player by player, as a loop does.
use Rattle.std.proofs.Common.{◌≡◌, ℕ, zero, suc, ◌+◌, ◌-◌, ◌<◌, List, [], Ok, Err, sym, ap, ◌∙◌, refl, arith, add-one}
use Rattle.text_lines.specs.Answers.{Fails}
use Rattle.text_fields.specs.declared.fault.TextFault.{TextFault}
use Rattle.text_fields.specs.declared.fault.TextFault.TheVariants.{At, Memory}
use Rattle.text_fields.specs.Faults.{is_memory}
use Rattle.roots.specs.Reading.{first_roots, with_root}

pub first_begun : (lines roots : List (List ℕ)) → roots ≡ [] → first_roots 0 lines ≡ Ok (roots, lines)
unfolding first_roots
first_begun lines roots none = rw none refl

-- one player more
pub first_suc : (q : ℕ) (lines roots rest : List (List ℕ)) → first_roots q lines ≡ Ok (roots, rest) → first_roots (suc q) lines ≡ with_root q roots rest
unfolding first_roots
first_suc q lines roots rest so_far = rw so_far refl

pub first_more : (q : ℕ) (lines roots rest : List (List ℕ)) → first_roots q lines ≡ Ok (roots, rest) → first_roots (q + 1) lines ≡ with_root q roots rest
first_more q lines roots rest so_far = ap (λ k. first_roots k lines) (add-one q) ∙ first_suc q lines roots rest so_far

-- a line at fault stays at fault
failed_more : (k : ℕ) (lines : List (List ℕ)) (e : TextFault) (n : ℕ) → first_roots k lines ≡ Err e → first_roots (n + k) lines ≡ Err e
unfolding first_roots
failed_more k lines e zero h = let z : 0 + k ≡ k = omega arith in rw z h
failed_more k lines e (suc n) h = let z : suc n + k ≡ suc (n + k) = omega arith in rw (z, failed_more k lines e n h) refl

pub first_fails : (e : TextFault) (q players : ℕ) (lines roots rest : List (List ℕ)) → q < players → first_roots q lines ≡ Ok (roots, rest)
    → Fails is_memory e (with_root q roots rest) → Fails is_memory e (first_roots players lines)
first_fails Memory q players lines roots rest lt so_far h = tt
first_fails (At n) q players lines roots rest lt so_far h =
    let here : first_roots (q + 1) lines ≡ Err (At n) = first_more q lines roots rest so_far ∙ h in
    let all : players - (q + 1) + (q + 1) ≡ players = omega arith in
    ap (λ k. first_roots k lines) (sym all) ∙ failed_more (q + 1) lines (At n) (players - (q + 1)) here
