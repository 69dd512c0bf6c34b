-- Entries: which entries a log of a session may have, whoever wrote it.
use Rattle.std.specs.Prelude.{ℕ, Bool, ◌&&◌, nat_lt, ◌==◌, IsTrue, List}
use Rattle.definitions.specs.declared.logs.Entry.{Entry}
use Rattle.definitions.specs.declared.logs.Entry.TheVariants.{Chose, Made, Got}
use Rattle.definitions.specs.Lists.{EachIs}
use Rattle.definitions.specs.World.{Game}
use Rattle.definitions.specs.Logs.{player_of, turn_of}
use Rattle.definitions.specs.Answers.{is_of_another}

-- the entry may stand in the owner's log: its turn is the session's, a made frame is the owner's, and a frame that was
-- got is of the other player from whom it came
abbrev pub is_well_formed : Game → ℕ → Entry → Bool
is_well_formed game me (Chose t m n) = nat_lt t game.turns
is_well_formed game me (Made f) = nat_lt (turn_of f) game.turns && (player_of f == me)
is_well_formed game me (Got q f) = nat_lt (turn_of f) game.turns && is_of_another game me q f

-- a log of the session, honest or not
abbrev pub AreWellFormed : Game → ℕ → List Entry → Type 0
AreWellFormed game me h = EachIs (λ e. IsTrue (is_well_formed game me e)) h
