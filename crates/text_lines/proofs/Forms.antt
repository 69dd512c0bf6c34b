-- A line that has a form is spelled so, and what is spelled so has the form.
use Rattle.std.proofs.Common.{◌≡◌, ℕ, ◌^◌, ◌≤◌, ◌<◌, true, eqb, List, [], ◌∷◌, ◌++◌, length, take, drop, Option, Some, None, refl, sym, ap, subst, ◌∙◌, inl, inr}
use Rattle.std.specs.Prelude.{bytes_eq, codes, nat_le}
use Rattle.std.specs.Fmt.{decimal}
use Rattle.std.specs.Cmp.Lexicographic.{same_text}
use Rattle.std.proofs.lemmas.Bool.{eqb-true, eq-eqb, and_from, and_parts, leb-true, le-leb}
use Rattle.std.proofs.lemmas.List.{take_at, drop_at, take-append-drop}
use Rattle.byte_fields.specs.Fronts.{behind}
use Rattle.byte_fields.proofs.Reading.{bind_some}
use Rattle.byte_fields.specs.Numbers.{digits_len, number_of}
use Rattle.byte_fields.proofs.Decimals.{number_of-some, number_of-decimal, decimal_digits}
use Rattle.byte_fields.proofs.Placed.{digits_len-digits}
use Rattle.text_lines.specs.Lines.{fields_of, line_of, number_at, field_at, is_ended, is_within, kept_within, one_of, one_within, two_of, three_of, three_or_five_of}
use Rattle.text_lines.specs.Laws.{two_more}
use Rattle.plain_lemmas.proofs.Options.{map_some, when_some, some_when}
use Rattle.plain_lemmas.proofs.Lists.{front_stands}
use Rattle.plain_lemmas.proofs.Tests.{chosen}

bytes_eq-same : (xs : List ℕ) → bytes_eq xs xs ≡ true
bytes_eq-same [] = refl
bytes_eq-same (x ∷ xs) = and_from (eqb x x) (bytes_eq xs xs) (eq-eqb x x refl) (bytes_eq-same xs)

-- ---- what stands behind a front

behind-front : (front rest : List ℕ) → behind front (front ++ rest) ≡ Some rest
behind-front front rest = rw (take_at front rest (length front) refl, bytes_eq-same front, drop_at front rest (length front) refl) refl

-- ---- a number behind a space

-- a field that was read, and the text behind it
record IsField (text : List ℕ) (x : ℕ × List ℕ) : Type 0 where
  spelled : text ≡ 32 ∷ decimal x.0 ++ x.1
  below : x.0 < 2 ^ 32

number_at-some : (text : List ℕ) (x : ℕ × List ℕ) → number_at text ≡ Some x → IsField (32 ∷ text) x
number_at-some text x e =
    let k : ℕ = digits_len text in
    let read = map_some (λ n. (n, drop k text)) (number_of (take k text)) x e in
    let number = number_of-some (take k text) read.0 read.1 in
    let whole : text ≡ decimal read.0 ++ drop k text = sym (take-append-drop k text) ∙ ap (λ (front : List ℕ). front ++ drop k text) number.0 in
    subst (λ (y : ℕ × List ℕ). IsField (32 ∷ text) y) read.2 (record { spelled = ap (λ (t : List ℕ). 32 ∷ t) whole; below = number.1 })

field_at-some : (text : List ℕ) (x : ℕ × List ℕ) → field_at text ≡ Some x → IsField text x
unfolding field_at
field_at-some [] x e = absurd cc
field_at-some (b ∷ text) x e =
    let kept = when_some (eqb b 32) (number_at text) x e in
    subst (λ (c : ℕ). IsField (c ∷ text) x) (sym (eqb-true b 32 kept.0)) (number_at-some text x kept.1)

field_at-spelled : (n : ℕ) (rest : List ℕ) → n < 2 ^ 32 → digits_len rest ≡ 0 → field_at (32 ∷ decimal n ++ rest) ≡ Some (n, rest)
unfolding field_at
field_at-spelled n rest small other =
    let k = digits_len-digits (decimal n) rest (decimal_digits n small) other in
    rw (k, take_at (decimal n) rest (length (decimal n)) refl, number_of-decimal n small, drop_at (decimal n) rest (length (decimal n)) refl) refl

-- ---- lines of one, two, three and five numbers

ended : (rest : List ℕ) → is_ended rest ≡ true → rest ≡ codes "\n"
ended rest e = same_text rest (codes "\n") (sym e)

-- a field, and what stands behind it
fields_join : (text : List ℕ) (x : ℕ × List ℕ) (others : List ℕ) → IsField text x → x.1 ≡ fields_of others → text ≡ fields_of (x.0 ∷ others)
fields_join text x others field rest = field.spelled ∙ ap (λ (t : List ℕ). 32 ∷ decimal x.0 ++ t) rest

-- a name, and what stands behind it
line_join : (name line rest others : List ℕ) → line ≡ name ++ rest → rest ≡ fields_of others → line ≡ line_of name others
line_join name line rest others front fields = front ∙ ap (λ (t : List ℕ). name ++ t) fields

-- a name with three numbers, and what stands behind them
three_join : (name line front : List ℕ) (a b c : ℕ × List ℕ) (others : List ℕ) → line ≡ name ++ front → IsField front a → IsField a.1 b → IsField b.1 c → c.1 ≡ fields_of others
    → line ≡ line_of name (a.0 ∷ b.0 ∷ c.0 ∷ others)
three_join name line front a b c others stands first second third rest =
    line_join name line front (a.0 ∷ b.0 ∷ c.0 ∷ others) stands (fields_join front a (b.0 ∷ c.0 ∷ others) first (fields_join a.1 b (c.0 ∷ others) second (fields_join b.1 c others third rest)))

pub one_of-some : (name line : List ℕ) (n : ℕ) → one_of name line ≡ Some n → line ≡ line_of name (n ∷ [])
unfolding one_of
one_of-some name line n e =
    let front = bind_some (behind name line) _ n e in
    let a = bind_some (field_at front.0) _ n front.2 in
    let kept = some_when (is_ended a.0.1) a.0.0 n a.2 in
    subst (λ (m : ℕ). line ≡ line_of name (m ∷ [])) {x = a.0.0} kept.1
    (line_join name line front.0 (a.0.0 ∷ []) (front_stands name line front.0 front.1) (fields_join front.0 a.0 [] (field_at-some front.0 a.0 a.1) (ended a.0.1 kept.0)))

-- ---- numbers within limits

pub within_of : (low high n : ℕ) → is_within low high n ≡ true → (low ≤ n) × (n ≤ high)
within_of low high n h =
    let both = and_parts (nat_le low n) (nat_le n high) h in
    (leb-true low n both.0, leb-true n high both.1)

pub is_within-from : (low high n : ℕ) → (low ≤ n) × (n ≤ high) → is_within low high n ≡ true
is_within-from low high n h = and_from (nat_le low n) (nat_le n high) (le-leb low n h.0) (le-leb n high h.1)

kept_within-some : (low high : ℕ) (o : Option ℕ) (n : ℕ) → kept_within low high o ≡ Some n → (o ≡ Some n) × (low ≤ n) × (n ≤ high)
kept_within-some low high None n e = absurd cc
kept_within-some low high (Some m) n e =
    let kept = some_when (is_within low high m) m n e in
    let both = within_of low high m kept.0 in
    let same = kept.1 in
    (ap (λ (k : ℕ). Some k) same, subst (λ (k : ℕ). low ≤ k) same both.0, subst (λ (k : ℕ). k ≤ high) same both.1)

pub one_within-some : (name : List ℕ) (low high : ℕ) (line : List ℕ) (n : ℕ) → one_within name low high line ≡ Some n → (line ≡ line_of name (n ∷ [])) × (low ≤ n) × (n ≤ high)
one_within-some name low high line n e =
    let kept = kept_within-some low high (one_of name line) n e in
    (one_of-some name line n kept.0, kept.1, kept.2)

pub two_of-some : (name line : List ℕ) (x : ℕ × ℕ) → two_of name line ≡ Some x → line ≡ line_of name (x.0 ∷ x.1 ∷ [])
unfolding two_of
two_of-some name line x e =
    let front = bind_some (behind name line) _ x e in
    let a = bind_some (field_at front.0) _ x front.2 in
    let b = bind_some (field_at a.0.1) _ x a.2 in
    let kept = some_when (is_ended b.0.1) (a.0.0, b.0.0) x b.2 in
    subst (λ (y : ℕ × ℕ). line ≡ line_of name (y.0 ∷ y.1 ∷ [])) {x = (a.0.0, b.0.0)} kept.1
    (line_join name line front.0 (a.0.0 ∷ b.0.0 ∷ []) (front_stands name line front.0 front.1)
    (fields_join front.0 a.0 (b.0.0 ∷ []) (field_at-some front.0 a.0 a.1) (fields_join a.0.1 b.0 [] (field_at-some a.0.1 b.0 b.1) (ended b.0.1 kept.0))))

pub three_of-some : (name line : List ℕ) (x : ℕ × ℕ × ℕ) → three_of name line ≡ Some x → line ≡ line_of name (x.0 ∷ x.1 ∷ x.2 ∷ [])
unfolding three_of
three_of-some name line x e =
    let front = bind_some (behind name line) _ x e in
    let a = bind_some (field_at front.0) _ x front.2 in
    let b = bind_some (field_at a.0.1) _ x a.2 in
    let c = bind_some (field_at b.0.1) _ x b.2 in
    let kept = some_when (is_ended c.0.1) (a.0.0, b.0.0, c.0.0) x c.2 in
    subst (λ (y : ℕ × ℕ × ℕ). line ≡ line_of name (y.0 ∷ y.1 ∷ y.2 ∷ [])) {x = (a.0.0, b.0.0, c.0.0)} kept.1
    (three_join name line front.0 a.0 b.0 c.0 [] (front_stands name line front.0 front.1) (field_at-some front.0 a.0 a.1) (field_at-some a.0.1 b.0 b.1) (field_at-some b.0.1 c.0 c.1) (ended c.0.1 kept.0))

abbrev ThreeOrFive : Type 0
ThreeOrFive = (ℕ × ℕ × ℕ) × Option (ℕ × ℕ)

some_is : {A : Type 0} (x y : A) → Some x ≡ Some y → x ≡ y
some_is x y e = cc

pub three_or_five_of-some : (name line : List ℕ) (x : ThreeOrFive) → three_or_five_of name line ≡ Some x → line ≡ line_of name (x.0.0 ∷ x.0.1 ∷ x.0.2 ∷ two_more x.1)
unfolding three_or_five_of
three_or_five_of-some name line x e =
    let Spells : ThreeOrFive → Type 0 = λ y. line ≡ line_of name (y.0.0 ∷ y.0.1 ∷ y.0.2 ∷ two_more y.1) in
    let front = bind_some (behind name line) _ x e in
    let a = bind_some (field_at front.0) _ x front.2 in
    let b = bind_some (field_at a.0.1) _ x a.2 in
    let c = bind_some (field_at b.0.1) _ x b.2 in
    let stands = front_stands name line front.0 front.1 in
    let first = field_at-some front.0 a.0 a.1 in
    let second = field_at-some a.0.1 b.0 b.1 in
    let third = field_at-some b.0.1 c.0 c.1 in
    elim (chosen (is_ended c.0.1) _ _ _ c.2) [
      | inl three ↦
          subst Spells {x = ((a.0.0, b.0.0, c.0.0), None)} (some_is _ _ three.1) (three_join name line front.0 a.0 b.0 c.0 [] stands first second third (ended c.0.1 three.0))
      | inr five ↦
          let d = bind_some (field_at c.0.1) _ x five.1 in
          let f = bind_some (field_at d.0.1) _ x d.2 in
          let kept = some_when (is_ended f.0.1) ((a.0.0, b.0.0, c.0.0), Some (d.0.0, f.0.0)) x f.2 in
          let behind_three = fields_join c.0.1 d.0 (f.0.0 ∷ []) (field_at-some c.0.1 d.0 d.1) (fields_join d.0.1 f.0 [] (field_at-some d.0.1 f.0 f.1) (ended f.0.1 kept.0)) in
          subst Spells {x = ((a.0.0, b.0.0, c.0.0), Some (d.0.0, f.0.0))} kept.1 (three_join name line front.0 a.0 b.0 c.0 (d.0.0 ∷ f.0.0 ∷ []) stands first second third behind_three)
    ]

pub one_of-spelled : (name : List ℕ) (n : ℕ) → n < 2 ^ 32 → one_of name (line_of name (n ∷ [])) ≡ Some n
unfolding one_of
one_of-spelled name n small = rw (behind-front name (fields_of (n ∷ [])), field_at-spelled n (fields_of []) small refl) refl

pub one_within-spelled : (name : List ℕ) (low high n : ℕ) → low ≤ n → n ≤ high → n < 2 ^ 32 → one_within name low high (line_of name (n ∷ [])) ≡ Some n
one_within-spelled name low high n from to small = rw (one_of-spelled name n small, is_within-from low high n (from, to)) refl

pub two_of-spelled : (name : List ℕ) (m n : ℕ) → m < 2 ^ 32 → n < 2 ^ 32 → two_of name (line_of name (m ∷ n ∷ [])) ≡ Some (m, n)
unfolding two_of
two_of-spelled name m n m_small n_small =
    rw (behind-front name (fields_of (m ∷ n ∷ [])), field_at-spelled m (fields_of (n ∷ [])) m_small refl, field_at-spelled n (fields_of []) n_small refl) refl

pub three_of-spelled : (name : List ℕ) (k m n : ℕ) → k < 2 ^ 32 → m < 2 ^ 32 → n < 2 ^ 32 → three_of name (line_of name (k ∷ m ∷ n ∷ [])) ≡ Some (k, m, n)
unfolding three_of
three_of-spelled name k m n k_small m_small n_small =
    rw (behind-front name (fields_of (k ∷ m ∷ n ∷ [])), field_at-spelled k (fields_of (m ∷ n ∷ [])) k_small refl, field_at-spelled m (fields_of (n ∷ [])) m_small refl, field_at-spelled n (fields_of []) n_small refl) refl

pub three_or_five_of-three : (name : List ℕ) (k m n : ℕ) → k < 2 ^ 32 → m < 2 ^ 32 → n < 2 ^ 32 → three_or_five_of name (line_of name (k ∷ m ∷ n ∷ [])) ≡ Some ((k, m, n), None)
unfolding three_or_five_of
three_or_five_of-three name k m n k_small m_small n_small =
    rw (behind-front name (fields_of (k ∷ m ∷ n ∷ [])), field_at-spelled k (fields_of (m ∷ n ∷ [])) k_small refl, field_at-spelled m (fields_of (n ∷ [])) m_small refl, field_at-spelled n (fields_of []) n_small refl) refl

pub three_or_five_of-five : (name : List ℕ) (k m n a b : ℕ) → k < 2 ^ 32 → m < 2 ^ 32 → n < 2 ^ 32 → a < 2 ^ 32 → b < 2 ^ 32
    → three_or_five_of name (line_of name (k ∷ m ∷ n ∷ a ∷ b ∷ [])) ≡ Some ((k, m, n), Some (a, b))
unfolding three_or_five_of
three_or_five_of-five name k m n a b k_small m_small n_small a_small b_small =
    rw (
      behind-front name (fields_of (k ∷ m ∷ n ∷ a ∷ b ∷ [])),
      field_at-spelled k (fields_of (m ∷ n ∷ a ∷ b ∷ [])) k_small refl,
      field_at-spelled m (fields_of (n ∷ a ∷ b ∷ [])) m_small refl,
      field_at-spelled n (fields_of (a ∷ b ∷ [])) n_small refl,
      field_at-spelled a (fields_of (b ∷ [])) a_small refl,
      field_at-spelled b (fields_of []) b_small refl,
    ) refl
