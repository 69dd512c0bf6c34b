-- Which calls of a station in memory are to fail.
use Rattle.std.specs.Prelude.{ℕ, ◌^◌, Bool, false, ◌&&◌, ◌||◌, ◌==◌, nat_lt, nat_le, List, Option, Some, None, []}
use Rattle.std.specs.List.{list_any}

pub record HeldPlan : Type 0 where
  -- the numbers of the calls that are to fail, counted from 1
  pub named : List ℕ
  -- the number from which on each call is to fail
  pub from : Option ℕ

-- no call is to fail
abbrev pub new_plan : HeldPlan
new_plan = record { named = []; from = None }

abbrev pub is_from : Option ℕ → ℕ → Bool
is_from None number = false
is_from (Some from) number = nat_le from number

-- whether the call of that number is to fail
abbrev pub fails : HeldPlan → ℕ → Bool
fails plan number = is_from plan.from number || (nat_lt number (2 ^ 32) && list_any (λ n. n == number) plan.named)
