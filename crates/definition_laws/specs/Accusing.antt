-- Laws on accusing: what findings are, whom they name, and whom never.
use Rattle.std.specs.Prelude.{◌≡◌, ℕ, ◌<◌, ◌≤◌, ◌↔◌, List, Some, slice_get}
use Rattle.definitions.specs.declared.world.Move.{Move}
use Rattle.definitions.specs.declared.openings.Opening.{Opening}
use Rattle.definitions.specs.declared.logs.Entry.{Entry}
use Rattle.definitions.specs.declared.findings.Kind.TheVariants.{Collision}
use Rattle.definitions.specs.declared.findings.Finding.{Finding}
use Rattle.definitions.specs.Lists.{EachIs}
use Rattle.definitions.specs.World.{Game, players_of}
use Rattle.definitions.specs.Logs.{chosen, got_of}
use Rattle.definitions.specs.Held.{resolved}
use Rattle.definitions.specs.Findings.{findings, got_known, IsOrdered, IsShown}
use Rattle.definitions.specs.Honest.{IsHonest}
use Rattle.definitions.specs.Steps.{IsMadeIn}
use Rattle.definition_laws.specs.Members.{Has}
use Rattle.definition_laws.specs.Spots.{AllFit, IsCollision, IsLeastPair, ShowsTwoFaces}

-- the findings are listed by player, turn and kind, and each is shown by its sightings
abbrev pub FindingsAreListed : Type 0
FindingsAreListed = (game : Game) (logs : List (List Entry)) → IsOrdered (findings game logs) × EachIs (IsShown game logs) (findings game logs)

-- a finding is listed exactly where its player and turn are the session's, and its spots are the least that show its kind
abbrev pub FindingsAreTheLeastPairs : Type 0
FindingsAreTheLeastPairs = (game : Game) (logs : List (List Entry)) (f : Finding) →
    Has (findings game logs) f ↔ ((f.player < players_of game) × (f.turn < game.turns) × IsLeastPair game logs f)

-- where two logs resolve a player's turn by different moves, that turn is found, by two commitments or by a collision
abbrev pub DifferentMovesAreFound : Type 0
DifferentMovesAreFound = (game : Game) (logs : List (List Entry)) (i j q t : ℕ) (g h : List Entry) (m k : Move) → q < players_of game →
    slice_get logs i ≡ Some g → slice_get logs j ≡ Some h → slice_get (got_known game q g).moves t ≡ Some m →
    slice_get (got_known game q h).moves t ≡ Some k → (m ≡ k → ⊥) →
    (f : Finding) × ShowsTwoFaces game logs q t f

-- a collision that is found is two byte strings with one SHA-256 digest
abbrev pub CollisionsAreTwoStrings : Type 0
CollisionsAreTwoStrings = (game : Game) (logs : List (List Entry)) (f : Finding) → AllFit logs → Has (findings game logs) f → f.kind ≡ Collision →
    IsCollision game logs f

-- all that the log got of the player stands among the frames that the player's own log made
abbrev pub IsAuthentic : ℕ → List Entry → List Entry → Type 0
IsAuthentic q own h = EachIs (IsMadeIn own) (got_of q h)

-- a player whose own log is honest is never named in logs that got from it only what it made
abbrev pub HonestPlayersAreNotNamed : Type 0
HonestPlayersAreNotNamed = (game : Game) (q : ℕ) (own : List Entry) (logs : List (List Entry)) (f : Finding) → 1 ≤ game.ahead →
    IsHonest game q own → EachIs (IsAuthentic q own) logs → Has (findings game logs) f → f.player ≡ q → ⊥

-- a move that another log takes for such a player's turn is the one that the player chose for it
abbrev pub AcceptedMovesAreChosen : Type 0
AcceptedMovesAreChosen = (game : Game) (me q t : ℕ) (own h : List Entry) (m : Move) → 1 ≤ game.ahead → IsHonest game q own → (q ≡ me → ⊥) →
    IsAuthentic q own h → resolved game me h q t ≡ Some m → (o : Opening) × (slice_get (chosen q own) t ≡ Some o) × (o.mv ≡ m)
