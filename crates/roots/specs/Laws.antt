-- Laws of roots: how their texts are told, and that each ends before the front of a file.
use Rattle.std.specs.Prelude.{◌≡◌, ℕ, ◌<◌, ◌≤◌, List, length, Ok}
use Rattle.definitions.specs.declared.limits.TheConstants.{MOST_PLAYERS}
use Rattle.roots.specs.declared.limits.TheConstants.{ROOTS_FRONT}
use Rattle.roots.specs.Text.{AreRootsOf, IsReadFrom, roots_text}
use Rattle.roots.specs.Reading.{roots_at}

-- the text of the roots of a session's players is read as these roots
abbrev pub RootsAreRead : Type 0
RootsAreRead = (players : ℕ) (roots : List (List ℕ)) → players ≤ MOST_PLAYERS → AreRootsOf players roots → roots_at players (roots_text roots) ≡ Ok roots

-- a text that is read as roots is their text
abbrev pub RootsAreSpelled : Type 0
RootsAreSpelled = (players : ℕ) (text : List ℕ) (roots : List (List ℕ)) → roots_at players text ≡ Ok roots → IsReadFrom players roots text

-- each text of the roots of a session's players ends before the front of a file that decides
abbrev pub RootsFitTheFront : Type 0
RootsFitTheFront = (players : ℕ) (roots : List (List ℕ)) (text : List ℕ) → players ≤ MOST_PLAYERS → IsReadFrom players roots text → length text < ROOTS_FRONT
