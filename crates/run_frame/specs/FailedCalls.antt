-- FailedCalls: which failed calls of the station stand in the history of a run.
use Rattle.std.specs.Prelude.{◌≡◌, Bool, true, List, [], ◌∷◌, ◌++◌}
use Rattle.socket_station.specs.Items.{Item, Call, Failed}

-- the last item is the failure of such a call
abbrev pub EndsBy : (Call → Bool) → List Item → Type 0
EndsBy is_such items = (before : List Item) × (call : Call) × (items ≡ before ++ Failed call ∷ []) × (is_such call ≡ true)

-- no item is the failure of such a call
abbrev pub FailsNone : (Call → Bool) → List Item → Type 0
FailsNone is_such items = (before more : List Item) (call : Call) → items ≡ before ++ Failed call ∷ more → is_such call ≡ true → ⊥
