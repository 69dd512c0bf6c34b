-- Unread: files of which nothing is read, and the files after the first.
use Rattle.std.proofs.Common.{◌≡◌, ℕ, suc, List, [], ◌∷◌, Option, None, Some, map, refl, sym, ◌∙◌}
use Rattle.std.proofs.Math.ListN.{get_or-map}
use Rattle.definitions.specs.Lists.{item_or}
use Rattle.definitions.proofs.Items.{item_is}
use Rattle.station.specs.Pieces.{Piece}
use Rattle.line_io.specs.Files.{AreContents, AreReadings, Calls, Contents, behind_first, in_turn}
use Rattle.line_io.specs.Fronts.{AllShown}

-- nothing is read of these files
abbrev pub none_read : List (List ℕ) → Calls
none_read names = map (λ name. []) names

pub none_in_turn : (names : List (List ℕ)) → in_turn (none_read names) ≡ []
none_in_turn [] = refl
none_in_turn (name ∷ names) = none_in_turn names

none_shown : (files : Option (List ℕ → Option (List ℕ))) (name : List ℕ) → AllShown files name []
none_shown None name = tt
none_shown (Some f) name = tt

pub none_readings : (files : Option (List ℕ → Option (List ℕ))) (names : List (List ℕ)) → AreReadings files names (none_read names)
none_readings files [] = refl
none_readings files (name ∷ names) = (tt, none_shown files name, none_readings files names)

pub none_at : (names : List (List ℕ)) (i : ℕ) → item_or (none_read names) i [] ≡ []
none_at names i = sym (item_is (none_read names) i []) ∙ get_or-map (λ name. []) names i []

-- the contents behind the first give what the calls behind the first were answered
pub behind_are : (files : Contents) (pieces : List Piece) (calls : Calls) → AreContents files (pieces ∷ calls) → AreContents (behind_first files) calls
behind_are [] pieces calls h = λ n. h (suc n)
behind_are (content ∷ files) pieces calls h = λ n. h (suc n)
