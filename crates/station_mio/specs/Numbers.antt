-- Which socket numbers were not used yet.
use Rattle.std.specs.Prelude.{◌≡◌, ◌≤◌, ◌+◌, ℕ, List, [], ◌∷◌}
use Rattle.socket_station.specs.declared.answers.Ready.{Ready}
use Rattle.socket_station.specs.declared.answers.Ready.TheVariants.{Opened, Socket as Seems}
use Rattle.socket_station.specs.declared.answers.Dial.{Dial}
use Rattle.socket_station.specs.declared.answers.Dial.TheVariants.{Socket, Failed}
use Rattle.socket_station.specs.declared.answers.Standing.TheVariants.{Fresh}
use Rattle.socket_station.specs.Items.{Item}
use Rattle.socket_station.specs.Standings.{standing_in}

-- By this history each number from the first one on was never used.
abbrev pub AreUnused : ℕ → List Item → Type 0
AreUnused first items = (n : ℕ) → first ≤ n → standing_in items n ≡ Fresh

-- A list opens numbers that rise, from the first one on, and all below the last one.
abbrev pub OpensBetween : ℕ → ℕ → List Ready → Type 0
OpensBetween first last [] = first ≤ last
OpensBetween first last (Opened s ∷ more) = (first ≤ s) × OpensBetween (s + 1) last more
OpensBetween first last (Seems s ∷ more) = OpensBetween first last more

-- A dial opens a number from the first one on, and below the last one.
abbrev pub DialsBetween : ℕ → ℕ → Dial → Type 0
DialsBetween first last (Socket s) = (first ≤ s) × (s + 1 ≤ last)
DialsBetween first last Failed = first ≤ last
