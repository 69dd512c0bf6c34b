-- Options: what is known of the parts once the whole is there.
use Rattle.std.proofs.Common.{◌≡◌, Bool, true, false, refl}
use Rattle.std.specs.Prelude.{Option, Some, None, if◌then◌else◌, is_none, is_some, option_map, option_and_then}
use Rattle.std.proofs.lemmas.Bool.{false≢true}

-- what is there is a value
pub some_of : {A : Type 0} (o : Option A) → is_some o ≡ true → (x : A) × (o ≡ Some x)
some_of None e = absurd (false≢true e)
some_of (Some x) e = (x, refl)

-- nothing is there where nothing is found
pub none_of : {A : Type 0} (o : Option A) → is_none o ≡ true → o ≡ None
none_of None e = refl
none_of (Some x) e = absurd (false≢true e)

-- the value that a map gave was there
pub map_some : {A B : Type 0} (f : A → B) (o : Option A) (y : B) → option_map f o ≡ Some y → (x : A) × (o ≡ Some x) × (f x ≡ y)
map_some f None y h = absurd cc
map_some f (Some x) y h = (x, refl, cc)

-- what came behind a value was there, and the value too
pub then_some : {A B : Type 0} (f : A → Option B) (o : Option A) (y : B) → option_and_then f o ≡ Some y → (x : A) × (o ≡ Some x) × (f x ≡ Some y)
then_some f None y h = absurd cc
then_some f (Some x) y h = (x, refl, h)

-- what is there under a test passed it
pub when_some : {A : Type 0} (b : Bool) (o : Option A) (x : A) → (if b then o else None) ≡ Some x → (b ≡ true) × (o ≡ Some x)
when_some true o x h = (refl, h)
when_some false o x h = absurd cc

-- a value that is there under a test
pub some_when : {A : Type 0} (b : Bool) (x y : A) → (if b then Some x else None) ≡ Some y → (b ≡ true) × (x ≡ y)
some_when true x y h = (refl, cc)
some_when false x y h = absurd cc
