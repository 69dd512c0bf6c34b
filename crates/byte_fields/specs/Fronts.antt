-- Fronts: what stands behind the front of a text, and readings that follow one another.
use Rattle.std.specs.Prelude.{ℕ, List, length, take, drop, Option, Some, None, if◌then◌else◌, bytes_eq}

infixl 10 ◌>>=◌
-- what the function gives of the value that is there
abbrev pub ◌>>=◌ : {A B : Type 0} → Option A → (A → Option B) → Option B
None >>= f = None
(Some x) >>= f = f x

-- what stands behind this front
abbrev pub behind : List ℕ → List ℕ → Option (List ℕ)
behind front text = if bytes_eq (take (length front) text) front then Some (drop (length front) text) else None
