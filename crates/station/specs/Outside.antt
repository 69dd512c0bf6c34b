-- What every object of the outside has: a count of faults.
use Rattle.std.specs.Prelude.{◌≡◌, ℕ, ◌+◌, ◌-◌, ◌^◌, min, Bool, true, false}

-- a number and one more, up to the last value
abbrev pub one_more : ℕ → ℕ
one_more n = min (n + 1) (2 ^ 64 - 1)

-- the count of faults behind what failed once, or did not
abbrev pub faults_behind : (failed : Bool) → ℕ → ℕ
faults_behind true n = one_more n
faults_behind false n = n

-- The count rose by one, or it stood at its last value.
abbrev pub Rose : (before now : ℕ) → Type 0
Rose before now = now ≡ one_more before
