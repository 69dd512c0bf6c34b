-- Links: they are read player by player, as a loop does.
use Rattle.std.proofs.Common.{◌≡◌, ℕ, zero, suc, ◌+◌, ◌-◌, ◌<◌, true, false, List, [], ◌∷◌, ◌++◌, Ok, Err, refl, sym, ap, ◌∙◌, arith, add-one}
use Rattle.std.specs.Prelude.{◌==◌}
use Rattle.text_lines.specs.Answers.{Fails}
use Rattle.text_fields.specs.declared.fault.TextFault.{TextFault}
use Rattle.text_fields.specs.declared.fault.TextFault.TheVariants.{At, Memory}
use Rattle.text_fields.specs.Faults.{is_memory}
use Rattle.rosters.specs.declared.roster.Link.{Link}
use Rattle.rosters.specs.Reading.{link_at, links_at, with_link}

pub links_begun : (me : ℕ) (lines : List (List ℕ)) (links : List Link) → links ≡ [] → links_at me 0 lines ≡ Ok (links, lines)
unfolding links_at
links_begun me lines links none = rw none refl

-- one player more
pub links_more : (me q : ℕ) (lines : List (List ℕ)) (links : List Link) (rest : List (List ℕ)) → links_at me q lines ≡ Ok (links, rest) → links_at me (q + 1) lines ≡ with_link me q links rest
unfolding links_at
links_more me q lines links rest so_far = rw (add-one q, so_far) refl

pub links_suc : (me q : ℕ) (lines : List (List ℕ)) (links : List Link) (rest : List (List ℕ)) → links_at me q lines ≡ Ok (links, rest) → links_at me (suc q) lines ≡ with_link me q links rest
unfolding links_at
links_suc me q lines links rest so_far = rw so_far refl

-- nothing is added for me, and the link to another player is
pub with_me : (me q : ℕ) (links : List Link) (rest : List (List ℕ)) → (q == me) ≡ true → with_link me q links rest ≡ Ok (links, rest)
unfolding with_link
with_me me q links rest is = rw is refl

pub with_other : (me q : ℕ) (links : List Link) (lines : List (List ℕ)) (l : Link) (rest : List (List ℕ)) → (q == me) ≡ false → link_at me q lines ≡ Ok (l, rest)
    → with_link me q links lines ≡ Ok (links ++ (l ∷ []), rest)
unfolding with_link
with_other me q links lines l rest other is = rw (other, is) refl

-- a line at fault stays at fault
failed_more : (me k : ℕ) (lines : List (List ℕ)) (e : TextFault) (n : ℕ) → links_at me k lines ≡ Err e → links_at me (n + k) lines ≡ Err e
unfolding links_at
failed_more me k lines e zero h = let z : 0 + k ≡ k = omega arith in rw z h
failed_more me k lines e (suc n) h = let z : suc n + k ≡ suc (n + k) = omega arith in rw (z, failed_more me k lines e n h) refl

pub links_fail : (e : TextFault) (me q players : ℕ) (lines : List (List ℕ)) (links : List Link) (rest : List (List ℕ)) → q < players → links_at me q lines ≡ Ok (links, rest)
    → Fails is_memory e (with_link me q links rest) → Fails is_memory e (links_at me players lines)
links_fail Memory me q players lines links rest lt so_far h = tt
links_fail (At n) me q players lines links rest lt so_far h =
    let here : links_at me (q + 1) lines ≡ Err (At n) = links_more me q lines links rest so_far ∙ h in
    let all : players - (q + 1) + (q + 1) ≡ players = omega arith in
    ap (λ k. links_at me k lines) (sym all) ∙ failed_more me (q + 1) lines (At n) (players - (q + 1)) here
