-- Laws of lines: what a text is, and how a line is spelled that says numbers.
use Rattle.std.specs.Prelude.{◌≡◌, ◌<◌, ◌≤◌, ◌^◌, ℕ, List, [], ◌∷◌, Option, Some, None}
use Rattle.text_lines.specs.Lines.{ended_lines_of, joined, line_of, one_of, one_within, two_of, three_of, three_or_five_of}

-- a text is its lines, one behind the other
abbrev pub TextsAreTheirLines : Type 0
TextsAreTheirLines = (text : List ℕ) → joined (ended_lines_of text) ≡ text

-- the two numbers, if they are there
abbrev pub two_more : Option (ℕ × ℕ) → List ℕ
two_more None = []
two_more (Some more) = more.0 ∷ more.1 ∷ []

-- A line that is spelled from its name and numbers below 2^32 is read as these.
pub record LinesAreRead : Type 0 where
  pub one : (name : List ℕ) (n : ℕ) → n < 2 ^ 32 → one_of name (line_of name (n ∷ [])) ≡ Some n
  pub within : (name : List ℕ) (low high n : ℕ) → low ≤ n → n ≤ high → n < 2 ^ 32 → one_within name low high (line_of name (n ∷ [])) ≡ Some n
  pub two : (name : List ℕ) (m n : ℕ) → m < 2 ^ 32 → n < 2 ^ 32 → two_of name (line_of name (m ∷ n ∷ [])) ≡ Some (m, n)
  pub three : (name : List ℕ) (k m n : ℕ) → k < 2 ^ 32 → m < 2 ^ 32 → n < 2 ^ 32 → three_of name (line_of name (k ∷ m ∷ n ∷ [])) ≡ Some (k, m, n)
  pub or_five : (name : List ℕ) (k m n a b : ℕ) → k < 2 ^ 32 → m < 2 ^ 32 → n < 2 ^ 32 → a < 2 ^ 32 → b < 2 ^ 32
      → three_or_five_of name (line_of name (k ∷ m ∷ n ∷ a ∷ b ∷ [])) ≡ Some ((k, m, n), Some (a, b))

-- A line that is read as numbers is spelled so.
pub record LinesAreSpelled : Type 0 where
  pub one : (name line : List ℕ) (n : ℕ) → one_of name line ≡ Some n → line ≡ line_of name (n ∷ [])
  pub within : (name : List ℕ) (low high : ℕ) (line : List ℕ) (n : ℕ) → one_within name low high line ≡ Some n → (line ≡ line_of name (n ∷ [])) × (low ≤ n) × (n ≤ high)
  pub two : (name line : List ℕ) (x : ℕ × ℕ) → two_of name line ≡ Some x → line ≡ line_of name (x.0 ∷ x.1 ∷ [])
  pub three : (name line : List ℕ) (x : ℕ × ℕ × ℕ) → three_of name line ≡ Some x → line ≡ line_of name (x.0 ∷ x.1 ∷ x.2 ∷ [])
  pub or_five : (name line : List ℕ) (x : (ℕ × ℕ × ℕ) × Option (ℕ × ℕ)) → three_or_five_of name line ≡ Some x
      → line ≡ line_of name (x.0.0 ∷ x.0.1 ∷ x.0.2 ∷ two_more x.1)
