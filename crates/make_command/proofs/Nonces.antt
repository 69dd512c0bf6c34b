-- Nonces: the bytes of a generator's words one behind the other.
use Rattle.std.proofs.Common.{◌≡◌, ℕ, zero, suc, ◌+◌, ◌*◌, List, [], ◌++◌, length, length-append, refl, sym, ◌∙◌, ap, subst, arith}
use Rattle.std.specs.Int.{w32, to_be_bytes}
use Rattle.rand_pcg.specs.Lcg.{Lcg}
use Rattle.rand_pcg.specs.Pcg.{pcg32}
use Rattle.make_command.specs.Matches.{words_of}

pub words_begun : (g : Lcg) → words_of 0 g ≡ ([], g)
unfolding words_of
words_begun g = refl

words_more : (n : ℕ) (g : Lcg) → words_of (suc n) g ≡ ((words_of n g).0 ++ to_be_bytes w32 (pcg32 (words_of n g).1).0, (pcg32 (words_of n g).1).1)
unfolding words_of
words_more n g = refl

pub words_next : (n : ℕ) (g : Lcg) (bytes : List ℕ) (h : Lcg) (word : ℕ) (k : Lcg) (new : List ℕ) →
    (bytes, h) ≡ words_of n g → (word, k) ≡ pcg32 h → new ≡ bytes ++ to_be_bytes w32 word → (new, k) ≡ words_of (n + 1) g
words_next n g bytes h word k new e f w =
    let P : List ℕ × Lcg → Type 0 = λ x. ◌≡◌ {A = List ℕ × Lcg} (new, k) (x.0 ++ to_be_bytes w32 (pcg32 x.1).0, (pcg32 x.1).1) in
    let Q : ℕ × Lcg → Type 0 = λ y. ◌≡◌ {A = List ℕ × Lcg} (new, k) (bytes ++ to_be_bytes w32 y.0, y.1) in
    let one : n + 1 ≡ suc n = omega arith in
    let here : ◌≡◌ {A = List ℕ × Lcg} (new, k) (bytes ++ to_be_bytes w32 word, k) = ap (λ (v : List ℕ). (v, k)) w in
    subst P e (subst Q f here) ∙ sym (words_more n g) ∙ ap (λ m. words_of m g) (sym one)

pub words_long : (n : ℕ) (g : Lcg) → length (words_of n g).0 ≡ 4 * n
unfolding words_of
words_long zero g = refl
words_long (suc n) g =
    let ih = words_long n g in
    let long = length-append (words_of n g).0 (to_be_bytes w32 (pcg32 (words_of n g).1).0) in
    let four : length (to_be_bytes w32 (pcg32 (words_of n g).1).0) ≡ 4 = refl in
    omega (arith, ih, long, four)

pub bytes_long : (n : ℕ) (g : Lcg) (bytes : List ℕ) (h : Lcg) → (bytes, h) ≡ words_of n g → length bytes ≡ 4 * n
bytes_long n g bytes h e = ap (λ (x : List ℕ × Lcg). length x.0) e ∙ words_long n g
