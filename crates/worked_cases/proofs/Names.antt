-- Names of files that differ, and one more.
use Rattle.std.proofs.Common.{◌≡◌, ℕ, List, [], ◌∷◌, ◌++◌, map, false, refl}
use Rattle.std.specs.List.{list_any, IsDistinct}
use Rattle.std.specs.Str.{bytes_eq}
use Rattle.std.proofs.lemmas.List.{map-append}
use Rattle.std.proofs.lemmas.Map.Keys.{IsDistinct-push}
use Rattle.std.proofs.lemmas.Cmp.{nat_list_eq_equiv}
use Rattle.station.specs.Files.{NamedBytes, NamesDiffer}

-- a file whose name none of the files has
pub names_push : (files : List NamedBytes) (file : NamedBytes) → NamesDiffer files → list_any (bytes_eq file.name) (map (λ f. f.name) files) ≡ false → NamesDiffer (files ++ file ∷ [])
names_push files file differ new = rw (map-append (λ (f : NamedBytes). f.name) files (file ∷ [])) (IsDistinct-push nat_list_eq_equiv (map (λ f. f.name) files) file.name differ new)

-- two lists with the same names, and one more in each
pub names_alike : {X Y : Type 0} (f : X → List ℕ) (g : Y → List ℕ) (xs : List X) (ys : List Y) (x : X) (y : Y) → map f xs ≡ map g ys → f x ≡ g y → map f (xs ++ x ∷ []) ≡ map g (ys ++ y ∷ [])
names_alike f g xs ys x y alike one = rw (map-append f xs (x ∷ [])) (rw (map-append g ys (y ∷ [])) (rw alike (rw one refl)))

-- no files
pub names_none : (files : List NamedBytes) → files ≡ [] → NamesDiffer files
unfolding IsDistinct
names_none files none = rw none tt

-- two lists of nothing
pub none_alike : {X Y : Type 0} (f : X → List ℕ) (g : Y → List ℕ) (xs : List X) (ys : List Y) → xs ≡ [] → ys ≡ [] → map f xs ≡ map g ys
none_alike f g xs ys none nothing = rw none (rw nothing refl)
