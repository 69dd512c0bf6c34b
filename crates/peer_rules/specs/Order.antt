-- Order: which entry comes next, where a player makes and chooses all that it may before it hears.
use Rattle.std.specs.Prelude.{◌≡◌, ℕ, Bool, true, false, not, ◌&&◌, List, [], ◌∷◌, ◌++◌, Option, Some, None, is_none}
use Rattle.definitions.specs.declared.frames.TurnFrame.{TurnFrame}
use Rattle.definitions.specs.declared.logs.Entry.{Entry}
use Rattle.definitions.specs.declared.logs.Entry.TheVariants.{Chose, Made, Got}
use Rattle.definitions.specs.World.{Game}
use Rattle.definitions.specs.Logs.{frame_eq}
use Rattle.definitions.specs.Honest.{allowed}
use Rattle.definitions.specs.Needs.{may_choose}
use Rattle.definitions.specs.Advance.{next_made}

-- the own frame that the log allows now is this one
abbrev pub is_frame : Option TurnFrame → TurnFrame → Bool
is_frame None f = false
is_frame (Some g) f = frame_eq g f

-- whose turn an entry is: own frames come first, then a choice where one may be made, then a frame
-- that came
abbrev pub is_in_order : Game → (me : ℕ) → List Entry → Entry → Bool
is_in_order game me h (Made f) = is_frame (next_made game me h) f
is_in_order game me h (Chose t m n) = is_none (next_made game me h)
is_in_order game me h (Got q f) = is_none (next_made game me h) && not (may_choose game me h)

-- the protocol allows the entry, and it is its turn
abbrev pub comes_next : Game → (me : ℕ) → List Entry → Entry → Bool
comes_next game me h e = allowed game me h e && is_in_order game me h e

-- the entry is no frame that came
abbrev pub IsOwn : Entry → Type 0
IsOwn (Chose t m n) = Unit {0}
IsOwn (Made f) = Unit {0}
IsOwn (Got q f) = ⊥

-- own entries, each of which comes next after those before it
abbrev pub OwnRun : Game → (me : ℕ) → (h more : List Entry) → Type 0
OwnRun game me h [] = Unit {0}
OwnRun game me h (e ∷ es) = IsOwn e × (comes_next game me h e ≡ true) × OwnRun game me (h ++ e ∷ []) es
