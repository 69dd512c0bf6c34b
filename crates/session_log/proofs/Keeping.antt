-- Keeping: the front of a text that comes in pieces.
use Rattle.std.proofs.Common.{◌≡◌, ◌≤◌, ◌<◌, inl, inr, ℕ, suc, zero, ◌+◌, ◌-◌, min, List, [], ◌∷◌, ◌++◌, length, take, refl, sym, ◌∙◌, ap, arith}
use Rattle.std.proofs.lemmas.Bool.{cases_lt}
use Rattle.std.proofs.lemmas.List.{take_at, take_all}
use Rattle.byte_fields.specs.Fields.{overwritten}
use Rattle.plain_lemmas.proofs.Lists.{written_behind}

-- what is kept is the front of all
pub kept_room : (kept bytes out : List ℕ) (len count : ℕ) → length kept ≡ 64 → length out ≡ 64 → len < 64 → count ≡ min (length bytes) (64 - len) → out ≡ overwritten kept len (take count bytes) →
    take (len + length bytes) out ≡ take 64 (take len kept ++ bytes)
kept_room kept bytes out len count long out_long few c e =
    let some = written_behind kept bytes out 64 len count long (omega arith) c e in
    elim (cases_lt (64 - len) (length bytes)) [
      | inl lt ↦
          let full : take (len + length bytes) out ≡ take (len + count) out = take_all (len + length bytes) out (omega arith) ∙ sym (take_all (len + count) out (omega arith)) in
          full ∙ some
      | inr ge ↦
          let is : len + length bytes ≡ len + count = omega arith in
          ap (λ n. take n out) is ∙ some
    ]

pub kept_full : (kept bytes : List ℕ) (len : ℕ) → length kept ≡ 64 → 64 ≤ len → take (len + length bytes) kept ≡ take 64 (take len kept ++ bytes)
kept_full kept bytes len long full =
    take_all (len + length bytes) kept (omega arith) ∙ sym (take_at kept bytes 64 long) ∙ ap (λ xs. take 64 (xs ++ bytes)) (sym (take_all len kept (omega arith)))

-- the front of a front, and of what stands behind it
pub front_front : (n : ℕ) (xs ys : List ℕ) → take n (take n xs ++ ys) ≡ take n (xs ++ ys)
front_front zero xs ys = refl
front_front (suc n) [] ys = refl
front_front (suc n) (x ∷ xs) ys = ap (λ zs. x ∷ zs) (front_front n xs ys)
