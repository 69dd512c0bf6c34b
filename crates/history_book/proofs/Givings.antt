-- How the bytes given on a socket are copied, part by part.
use Rattle.std.proofs.Common.{◌≡◌, ℕ, ◌+◌, ◌-◌, ◌≤◌, ◌<◌, ◌⊎◌, inl, inr, List, [], ◌∷◌, ◌++◌, length, take, drop, min, map, refl, sym, ap, subst, ◌∙◌, arith, append-nil, append_assoc, length-drop, length-append, get_or, add-one, zero, suc}
use Rattle.std.proofs.lemmas.Grind.{common_steps, flat_map-append}
use Rattle.std.proofs.lemmas.List.{take-append-le, drop-append-le, drop-drop, take-append-drop, length-take, map-append, drop_min}
use Rattle.std.proofs.Math.Seq.{take-length, drop-append_seam, take-suc}
use Rattle.history_book.specs.declared.store.Part.{Part}
use Rattle.history_book.specs.Stores.{part_of, given_part, given_parts, AreWithin}

-- a part of a list stays behind an append
slice-kept : {A : Type 0} (at len : ℕ) (xs ys : List A) → at + len ≤ length xs → take len (drop at (xs ++ ys)) ≡ take len (drop at xs)
slice-kept at len xs ys h =
    ap (take len) (drop-append-le at xs ys (omega arith)) ∙ take-append-le len (drop at xs) ys (grind (arith, common_steps))

-- what was appended is the last part
slice-last : {A : Type 0} (xs ys : List A) → take (length ys) (drop (length xs) (xs ++ ys)) ≡ ys
slice-last xs ys = ap (take (length ys)) (drop-append_seam xs ys) ∙ take-length ys

-- parts stay within more bytes, and so does one more there
pub within-push : (n m : ℕ) (parts : List Part) (p : Part) → AreWithin n parts → n ≤ m → p.at + p.len ≤ m → AreWithin m (parts ++ p ∷ [])
within-push n m [] p w h e = (e, tt)
within-push n m (x ∷ parts) p w h e = (omega (arith, w.0), within-push n m parts p w.1 h e)

-- the byte strings stay as bytes are appended
parts-kept : (bytes more : List ℕ) (parts : List Part) → AreWithin (length bytes) parts → map (part_of (bytes ++ more)) parts ≡ map (part_of bytes) parts
parts-kept bytes more [] w = refl
parts-kept bytes more (p ∷ parts) w =
    ap (λ (b : List ℕ). record { what = p.what; bytes = b } ∷ map (part_of (bytes ++ more)) parts) (slice-kept p.at p.len bytes more w.0)
    ∙ ap (λ ps. part_of bytes p ∷ ps) (parts-kept bytes more parts w.1)

-- the byte strings with one more
pub parts-push : (bytes more : List ℕ) (parts : List Part) (p : Part) → AreWithin (length bytes) parts → p.at ≡ length bytes → p.len ≡ length more
    → map (part_of (bytes ++ more)) (parts ++ p ∷ []) ≡ map (part_of bytes) parts ++ record { what = p.what; bytes = more } ∷ []
parts-push bytes more parts p w a l =
    let last : take p.len (drop p.at (bytes ++ more)) ≡ more = ap (λ k. take k (drop p.at (bytes ++ more))) l ∙ (ap (λ k. take (length more) (drop k (bytes ++ more))) a ∙ slice-last bytes more) in
    map-append (part_of (bytes ++ more)) parts (p ∷ [])
    ∙ (ap (λ ps. ps ++ part_of (bytes ++ more) p ∷ []) (parts-kept bytes more parts w)
    ∙ ap (λ (b : List ℕ). map (part_of bytes) parts ++ record { what = p.what; bytes = b } ∷ []) last)

pub given-more : (s : ℕ) (bytes : List ℕ) (parts : List Part) (i : ℕ) (d : Part) → i < length parts
    → given_parts s (map (part_of bytes) (take (i + 1) parts)) ≡ given_parts s (map (part_of bytes) (take i parts)) ++ given_part s (part_of bytes (get_or parts i d))
given-more s bytes parts i d h =
    let x = get_or parts i d in
    ap (λ k. given_parts s (map (part_of bytes) (take k parts))) (add-one i)
    ∙ (ap (λ ps. given_parts s (map (part_of bytes) ps)) (take-suc parts i d h)
    ∙ (ap (given_parts s) (map-append (part_of bytes) (take i parts) (x ∷ []))
    ∙ (flat_map-append (given_part s) (map (part_of bytes) (take i parts)) (part_of bytes x ∷ [])
    ∙ ap (λ r. given_parts s (map (part_of bytes) (take i parts)) ++ r) (append-nil (given_part s (part_of bytes x))))))

-- so many of these bytes stand at the front of the buffer
pub record Copied (before now : List ℕ) (done : ℕ) (bytes : List ℕ) : Type 0 where
  pub count : done ≡ min (length before) (length bytes)
  pub copy : now ≡ take done bytes ++ drop done before

pub Copied-start : (before bytes : List ℕ) → bytes ≡ [] → Copied before before 0 bytes
Copied-start before bytes e = record { count = (let n = ap length e in omega (arith, n)); copy = refl }

past : (xs ys : List ℕ) (n : ℕ) → take (length xs + n) (xs ++ ys) ≡ xs ++ take n ys
past [] ys n = ap (λ k. take k ys) (omega arith)
past (x ∷ xs) ys n = let e : length (x ∷ xs) + n ≡ suc (length xs + n) = omega arith in ap (λ k. take k (x ∷ (xs ++ ys))) e ∙ ap (λ r. x ∷ r) (past xs ys n)

fits-all : (before bytes more : List ℕ) (c : ℕ) → length bytes ≤ length before → c ≡ min (length (drop (length bytes) before)) (length more)
    → bytes ++ (take c more ++ drop c (drop (length bytes) before)) ≡ take (length bytes + c) (bytes ++ more) ++ drop (length bytes + c) before
fits-all before bytes more c h e =
    sym (append_assoc bytes (take c more) (drop c (drop (length bytes) before)))
    ∙ (ap (λ d. (bytes ++ take c more) ++ d) (drop-drop c (length bytes) before)
    ∙ ap (λ t. t ++ drop (length bytes + c) before) (sym (past bytes more c)))

pub Copied-more : (before now new bytes more : List ℕ) (done c : ℕ) → Copied before now done bytes
    → c ≡ min (length (drop done now)) (length more) → new ≡ take done now ++ (take c more ++ drop c (drop done now))
    → (length bytes ≤ length before) ⊎ (length before ≤ length bytes) → Copied before new (done + c) (bytes ++ more)
Copied-more before now new bytes more done c s e n (inl h) =
    let d : done ≡ length bytes = (let k = s.count in omega (arith, k, h)) in
    let is : now ≡ bytes ++ drop (length bytes) before = s.copy ∙ (ap (λ k. take k bytes ++ drop k before) d ∙ ap (λ t. t ++ drop (length bytes) before) (take-length bytes)) in
    let rest : drop done now ≡ drop (length bytes) before = ap (λ k. drop k now) d ∙ (ap (drop (length bytes)) is ∙ drop-append_seam bytes (drop (length bytes) before)) in
    let front : take done now ≡ bytes = ap (λ k. take k now) d ∙ (ap (take (length bytes)) is ∙ (take-append-le (length bytes) bytes (drop (length bytes) before) (omega arith) ∙ take-length bytes)) in
    let c' : c ≡ min (length (drop (length bytes) before)) (length more) = e ∙ ap (λ r. min (length r) (length more)) rest in
    let left = length-drop (length bytes) before in
    let all = length-append bytes more in
    record {
      count = omega (arith, d, c', left, all, h);
      copy = n ∙ (ap (λ f. f ++ (take c more ++ drop c (drop done now))) front ∙ (ap (λ r. bytes ++ (take c more ++ drop c r)) rest
          ∙ (fits-all before bytes more c h c' ∙ ap (λ k. take (k + c) (bytes ++ more) ++ drop (k + c) before) (sym d))));
    }
Copied-more before now new bytes more done c s e n (inr h) =
    let d : done ≡ length before = (let k = s.count in omega (arith, k, h)) in
    let size : length now ≡ length before = ap length s.copy ∙ (length-append (take done bytes) (drop done before) ∙ (let a = length-take done bytes in let b = length-drop done before in omega (arith, a, b, d, h))) in
    let none : length (drop done now) ≡ 0 = length-drop done now ∙ omega (arith, d, size) in
    let zero_c : c ≡ 0 = omega (arith, e, none) in
    let stays : take done now ++ (take c more ++ drop c (drop done now)) ≡ now = ap (λ k. take done now ++ (take k more ++ drop k (drop done now))) zero_c ∙ take-append-drop done now in
    let k : done + c ≡ done = omega (arith, zero_c) in
    let all = length-append bytes more in
    record {
      count = omega (arith, d, zero_c, all, h);
      copy = n ∙ (stays ∙ (s.copy ∙ (ap (λ t. t ++ drop done before) (sym (take-append-le done bytes more (omega (arith, d, h)))) ∙ ap (λ j. take j (bytes ++ more) ++ drop j before) (sym k))));
    }

pub either : (a b : ℕ) → (a ≤ b) ⊎ (b ≤ a)
either zero b = inl (omega arith)
either (suc a) zero = inr (omega arith)
either (suc a) (suc b) = step (either a b)
  where
    step : (a ≤ b) ⊎ (b ≤ a) → (suc a ≤ suc b) ⊎ (suc b ≤ suc a)
    step (inl h) = inl (omega arith)
    step (inr h) = inr (omega arith)

-- the bytes behind a place, where bytes are added
drop-both : (at : ℕ) (xs ys : List ℕ) → drop at (xs ++ ys) ≡ drop at xs ++ drop (at - length xs) ys
drop-both zero xs ys = let e : 0 ≡ 0 - length xs = omega arith in ap (λ k. xs ++ drop k ys) e
drop-both (suc n) [] ys = let e : suc n ≡ suc n - 0 = omega arith in ap (λ k. drop k ys) e
drop-both (suc n) (x ∷ xs) ys = let e : n - length xs ≡ suc n - length (x ∷ xs) = omega arith in drop-both n xs ys ∙ ap (λ k. drop n xs ++ drop k ys) e

drop-more : (at : ℕ) (xs ys : List ℕ) → drop at (xs ++ ys) ≡ drop at xs ++ drop (min (at - length xs) (length ys)) ys
drop-more at xs ys = drop-both at xs ys ∙ ap (λ r. drop at xs ++ r) (sym (drop_min (at - length xs) ys))

-- a turn of the loop that copies
pub record Turn (before now : List ℕ) (at done skip : ℕ) (given : List ℕ) : Type 0 where
  pub skips : skip ≡ at - length given
  pub copied : Copied before now done (drop at given)

pub turn : (before now new : List ℕ) (at done skip from c : ℕ) (given after more : List ℕ) → skip ≡ at - length given → Copied before now done (drop at given)
    → after ≡ given ++ more → from ≡ min skip (length more) → c ≡ min (length (drop done now)) (length (drop from more))
    → new ≡ take done now ++ (take c (drop from more) ++ drop c (drop done now)) → Turn before new at (done + c) (skip - from) after
turn before now new at done skip from c given after more s cp e f k n =
    let size = length-append given more in
    let whole = ap length e in
    let behind : drop at after ≡ drop at given ++ drop from more =
    ap (drop at) e ∙ (drop-more at given more ∙ ap (λ j. drop at given ++ drop j more) (omega (arith, s, f))) in
    let P : List ℕ → Type 0 = λ b. Copied before new (done + c) b in
    record {
      skips = omega (arith, s, f, size, whole);
      copied = subst P (sym behind) (Copied-more before now new (drop at given) (drop from more) done c cp k n (either (length (drop at given)) (length before)));
    }
