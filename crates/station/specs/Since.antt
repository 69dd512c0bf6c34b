-- What was added to a record since it was an earlier one.
use Rattle.std.specs.Prelude.{◌≡◌, List, [], ◌++◌, length, drop}
use Rattle.std.proofs.Common.{ap, sym, ◌∙◌, append_assoc, append-nil}
use Rattle.std.proofs.Math.Seq.{drop-append_seam}

unfoldable pub since : {A : Type 0} → (before now : List A) → List A
since before now = drop (length before) now

-- The record now is the one before and what was added since.
abbrev pub Grows : {A : Type 0} → (before now : List A) → Type 0
Grows before now = now ≡ before ++ since before now

-- Laws of these words.
pub since_is : {A : Type 0} (before now more : List A) → now ≡ before ++ more → since before now ≡ more
unfolding since
since_is before now more e = ap (drop (length before)) e ∙ drop-append_seam before more

pub grows_by : {A : Type 0} (before now more : List A) → now ≡ before ++ more → Grows before now
grows_by before now more e = e ∙ ap (λ x. before ++ x) (sym (since_is before now more e))

pub since_none : {A : Type 0} (before : List A) → since before before ≡ []
since_none before = since_is before before [] (sym (append-nil before))

pub grows_none : {A : Type 0} (before : List A) → Grows before before
grows_none before = grows_by before before [] (sym (append-nil before))

joined : {A : Type 0} (a b c : List A) → Grows a b → Grows b c → c ≡ a ++ (since a b ++ since b c)
joined a b c g h = h ∙ ap (λ x. x ++ since b c) g ∙ append_assoc a (since a b) (since b c)

pub since_on : {A : Type 0} (a b c : List A) → Grows a b → Grows b c → since a c ≡ since a b ++ since b c
since_on a b c g h = since_is a c (since a b ++ since b c) (joined a b c g h)

pub grows_on : {A : Type 0} (a b c : List A) → Grows a b → Grows b c → Grows a c
grows_on a b c g h = grows_by a c (since a b ++ since b c) (joined a b c g h)
