-- Decimals: the words of the command say a number exactly where they are its digits.
use Rattle.std.proofs.Common.{◌≡◌, ℕ, ◌^◌, ◌<◌, List, [], ◌∷◌, Some, None, ap, ◌∙◌, arith}
use Rattle.std.specs.Prelude.{◌↔◌}
use Rattle.std.specs.Fmt.{decimal}
use Rattle.byte_fields.proofs.Decimals.{number_within-some, number_within-decimal}
use Rattle.make_command.specs.Words.{making_in}

pub numbers_told : (words : List (List ℕ)) (n : ℕ) → (making_in words ≡ Some n) ↔ ((words ≡ decimal n ∷ []) × (n < 2 ^ 64))
numbers_told words n = (there words, back)
  where
    there : (words : List (List ℕ)) → making_in words ≡ Some n → (words ≡ decimal n ∷ []) × (n < 2 ^ 64)
    there [] e = absurd (let never : None ≡ Some n = e in cc)
    there (word ∷ []) e =
        let said = number_within-some 18446744073709551615 word n (omega arith) e in
        (ap (λ (w : List ℕ). w ∷ []) said.0, omega (arith, said.1))
    there (word ∷ other ∷ words) e = absurd (let never : None ≡ Some n = e in cc)

    back : (words ≡ decimal n ∷ []) × (n < 2 ^ 64) → making_in words ≡ Some n
    back is = ap making_in is.0 ∙ number_within-decimal 18446744073709551615 n (omega arith) (omega (arith, is.1))
