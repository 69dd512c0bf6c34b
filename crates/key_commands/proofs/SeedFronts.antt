-- SeedFronts: the first 33 bytes of a file tell whether it is a seed.
use Rattle.std.proofs.Common.{◌≡◌, ◌<◌, ℕ, Bool, true, false, List, length, take, Option, None, Some, refl, sym, ap, ◌∙◌, arith}
use Rattle.std.specs.Prelude.{nat_le}
use Rattle.std.proofs.lemmas.Bool.{leb-true, leb-false, ne_eqb}
use Rattle.std.proofs.lemmas.List.{length-take-le, take_all}
use Rattle.line_io.specs.Fronts.{IsFrontOf}
use Rattle.key_commands.specs.Seeds.{seed_in, seed_said}
use Rattle.key_commands.specs.declared.seeds.TheConstants.{SEED_FRONT}

seed_front : (bytes : List ℕ) → seed_said (take SEED_FRONT bytes) ≡ seed_said bytes
seed_front bytes = go (nat_le (length bytes) SEED_FRONT) refl
  where
    go : (b : Bool) → nat_le (length bytes) SEED_FRONT ≡ b → seed_said (take SEED_FRONT bytes) ≡ seed_said bytes
    go true few = ap seed_said (take_all SEED_FRONT bytes (leb-true (length bytes) SEED_FRONT few))
    go false many =
        let more : SEED_FRONT < length bytes = leb-false (length bytes) SEED_FRONT many in
        let cut : length (take SEED_FRONT bytes) ≡ SEED_FRONT = length-take-le SEED_FRONT bytes (omega (arith, more)) in
        rw (ne_eqb (length (take SEED_FRONT bytes)) 32 (λ e. absurd (omega (arith, cut, e))), ne_eqb (length bytes) 32 (λ e. absurd (omega (arith, more, e)))) refl

-- so what is said by the front is said by the file
pub seed_read : (content : Option (List ℕ)) (text : List ℕ) → IsFrontOf SEED_FRONT content text → seed_in content ≡ seed_said text
seed_read None text h = absurd h
seed_read (Some bytes) text h = sym (seed_front bytes) ∙ ap seed_said (sym h)
