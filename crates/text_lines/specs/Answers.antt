-- Answers: what a reader answers, by what the text says. A reader that takes memory may answer want of memory in place of all else.
use Rattle.std.specs.Prelude.{◌≡◌, Bool, true, false, Option, Some, None, Result, Ok, Err}

-- what a function that takes no memory answers: what is said, seen by view, or the fault
abbrev pub Says : {E X Y : Type 0} → (X → Y) → Result X E → Result Y E → Type 0
Says view (Ok x) read = read ≡ Ok (view x)
Says view (Err e) read = read ≡ Err e

-- the fact, unless the test holds, of which nothing is said
abbrev pub Unless : Bool → Type 0 → Type 0
Unless true fact = Unit {0}
Unless false fact = fact

-- what a function that takes memory answers where there is this fault; of want of memory nothing is said
abbrev pub Fails : {E Y : Type 0} → (is_memory : E → Bool) → E → Result Y E → Type 0
Fails is_memory e read = Unless (is_memory e) (read ≡ Err e)

-- what it answers: what is said, seen by view, or the fault
abbrev pub Gives : {E X Y : Type 0} → (is_memory : E → Bool) → (X → Y) → Result X E → Result Y E → Type 0
Gives is_memory view (Ok x) read = read ≡ Ok (view x)
Gives is_memory view (Err e) read = Fails is_memory e read

-- this value is read, unless memory ran out
abbrev pub IsRead : {E X : Type 0} → (memory : E) → X → Result X E → Type 0
IsRead memory x (Ok y) = y ≡ x
IsRead memory x (Err e) = e ≡ memory

-- exactly this fault is answered, or none, unless memory ran out
abbrev pub Faults : {E X : Type 0} → (is_memory : E → Bool) → Result X E → Option E → Type 0
Faults is_memory (Ok x) fault = fault ≡ None
Faults is_memory (Err e) fault = Unless (is_memory e) (fault ≡ Some e)
