-- Files by name.
use Rattle.std.specs.Prelude.{ℕ, Option, Some, None, unwrap_or, List, [], ◌∷◌, map, bytes_eq, if◌then◌else◌}
use Rattle.std.specs.List.{IsDistinct}

-- what a file of a shelf is seen as
pub record NamedBytes : Type 0 where
  pub name : List ℕ
  pub bytes : List ℕ

-- the bytes of the file of that name, if there is one
abbrev pub content_in : List NamedBytes → List ℕ → Option (List ℕ)
content_in [] name = None
content_in (file ∷ files) name = if bytes_eq file.name name then Some file.bytes else content_in files name

-- the same where every name is there: one without bytes is empty
abbrev pub sure_content_in : List NamedBytes → List ℕ → List ℕ
sure_content_in files name = unwrap_or (content_in files name) []

-- No two files have one name.
abbrev pub NamesDiffer : List NamedBytes → Type 0
NamesDiffer files = IsDistinct bytes_eq (map (λ file. file.name) files)
