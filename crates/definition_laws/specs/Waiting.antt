-- Laws on waiting: who is waited for, and when the owner may choose.
use Rattle.std.specs.Prelude.{◌≡◌, ℕ, ◌≤◌, ◌↔◌, List, [], Some, IsTrue, length}
use Rattle.definitions.specs.declared.world.Move.{Move}
use Rattle.definitions.specs.declared.openings.Nonce.{Nonce}
use Rattle.definitions.specs.declared.openings.Opening.{Opening}
use Rattle.definitions.specs.declared.frames.What.{What}
use Rattle.definitions.specs.declared.logs.Entry.{Entry}
use Rattle.definitions.specs.declared.logs.Entry.TheVariants.{Chose, Made}
use Rattle.definitions.specs.World.{Game}
use Rattle.definitions.specs.Moves.{is_legal}
use Rattle.definitions.specs.Places.{slot_at}
use Rattle.definitions.specs.Logs.{chosen}
use Rattle.definitions.specs.Findings.{is_clean}
use Rattle.definitions.specs.Honest.{IsHonest, made_count, allowed, chosen_for, chosen_track}
use Rattle.definitions.specs.Needs.{needs, may_choose}
use Rattle.definitions.specs.Advance.{frame_of}

-- the chosen frame that is next may be made exactly where no one is waited for
abbrev pub WaitsForThoseWhoHinder : Type 0
WaitsForThoseWhoHinder = (game : Game) (me t : ℕ) (h : List Entry) (o : Opening) (what : What) → 1 ≤ game.ahead → IsHonest game me h →
    IsTrue (is_clean game h) → slot_at game (made_count h) ≡ Some (record { what = what; turn = t }) → chosen_for me h t ≡ Some o →
    IsTrue (allowed game me h (Made (frame_of game what o))) ↔ (needs game me h ≡ [])

-- a legal move may be chosen for the next turn exactly where the owner may choose
abbrev pub ChoosesWhereAllowed : Type 0
ChoosesWhereAllowed = (game : Game) (me : ℕ) (h : List Entry) (m : Move) (n : Nonce) → 1 ≤ game.ahead → IsHonest game me h →
    IsTrue (is_legal game me (chosen_track game me h) m) →
    allowed game me h (Chose (length (chosen me h)) m n) ≡ may_choose game me h
