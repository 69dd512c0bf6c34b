-- Empty: nothing kept stands for logs without entries.
use Rattle.std.proofs.Common.{List, None, Some, [], ap, sym, ℕ, ◌∙◌, ◌≡◌, slice_get}
use Rattle.definitions.specs.declared.logs.Entry.{Entry}
use Rattle.definitions.specs.declared.logs.Entry.TheVariants.{Got}
use Rattle.definitions.specs.World.{Game}
use Rattle.definitions.specs.Findings.{Sighting}
use Rattle.definition_laws.specs.Spots.{IsSighting}
use Rattle.frame_index.specs.Keeps.{Keeps}

pub keeps_none : (game : Game) (q t : ℕ) (logs : List (List Entry)) → ((i : ℕ) (h : List Entry) → slice_get logs i ≡ Some h → h ≡ []) → Keeps game q t logs []
keeps_none game q t logs bare = record { within = λ k m. absurd m; digests = λ k m. absurd m; firsts = λ s w. absurd (nothing s w) }
  where
    nothing : (s : Sighting) → IsSighting logs q t s → ⊥
    nothing s w =
        let at : None ≡ Some (Got q s.frame) = ap (λ (h : List Entry). slice_get h s.spot.entry) (sym (bare s.spot.log w.log w.there)) ∙ w.got in
        absurd (cc)
