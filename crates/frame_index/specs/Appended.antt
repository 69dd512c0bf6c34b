-- Appended: logs with one entry more at the end of one of them.
use Rattle.std.specs.Prelude.{ℕ, zero, suc, List, [], ◌∷◌, ◌++◌}
use Rattle.definitions.specs.declared.logs.Entry.{Entry}

-- the logs with this entry at the end of that log
abbrev pub with_entry : List (List Entry) → ℕ → Entry → List (List Entry)
with_entry [] i e = []
with_entry (h ∷ hs) zero e = (h ++ e ∷ []) ∷ hs
with_entry (h ∷ hs) (suc i) e = h ∷ with_entry hs i e
