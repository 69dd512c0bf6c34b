-- Choices: by what a loop chooses, and which choices are made so.
use Rattle.std.specs.Prelude.{◌≡◌, ℕ, Bool, List, [], ◌∷◌, ◌++◌, Option, IfSome, length, map, if◌then◌else◌}
use Rattle.rand_core.specs.Stream.{Stream, fill_bytes}
use Rattle.definitions.specs.declared.openings.Nonce.{Nonce}
use Rattle.definitions.specs.declared.openings.Opening.{Opening}
use Rattle.definitions.specs.declared.logs.Entry.{Entry}
use Rattle.definitions.specs.World.{Game}
use Rattle.definitions.specs.Moves.{track_after}
use Rattle.definitions.specs.Logs.{chosen}
use Rattle.pilots.specs.Plans.{Plan}

-- what a loop chooses by: the pilot's plan, if it tells one, and what the generator gives from now
-- on
pub record Chooser : Type 0 where
  pub plan : Option Plan
  pub chance : Stream

-- a chooser with this plan and these random bytes
abbrev pub chooser : Option Plan → Stream → Chooser
chooser plan chance = record { plan = plan; chance = chance }

-- the nonce that a generator gives next: its next 32 bytes
abbrev pub nonce_of : Stream → Nonce
nonce_of chance = record { bytes = (fill_bytes 32 chance).0 }

-- the generator behind that nonce
abbrev pub behind_nonce : Stream → Stream
behind_nonce chance = (fill_bytes 32 chance).1

-- The choice comes next after these. It is of the next turn, and its move is the plan's, where one
-- is told, by where the player stands then. Its nonce is the one that the generator gives next.
pub record IsChoice (game : Game) (me : ℕ) (plan : Option Plan) (chance : Stream) (before : List Opening) (o : Opening) : Type 0 where
  pub player : o.player ≡ me
  pub turn : o.turn ≡ length before
  pub planned : IfSome plan (λ p. o.mv ≡ p (track_after game me (map (λ c. c.mv) before)) o.turn)
  pub nonce : o.nonce ≡ nonce_of chance

-- choices made one after the other, after these; the generator stands then where its last nonce
-- ends
abbrev pub AreChoices : Game → (me : ℕ) → Option Plan → (before more : List Opening) → (chance later : Stream) → Type 0
AreChoices game me plan before [] chance later = later ≡ chance
AreChoices game me plan before (o ∷ more) chance later = IsChoice game me plan chance before o × AreChoices game me plan (before ++ o ∷ []) more (behind_nonce chance) later

-- The choices of the log `h` are those of `g` and further ones by the chooser, which stands after
-- them as `to` says. For a move that is refused one more nonce is drawn.
pub record ChoosesBy (game : Game) (me : ℕ) (by to : Chooser) (refused : Bool) (g h : List Entry) : Type 0 where
  pub more : List Opening
  pub grown : chosen me h ≡ chosen me g ++ more
  pub last : Stream
  pub made : AreChoices game me by.plan (chosen me g) more by.chance last
  pub chance : to.chance ≡ (if refused then behind_nonce last else last)
  pub plan : to.plan ≡ by.plan
