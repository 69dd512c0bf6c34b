-- Places: the place of a frame that a player lacks is low.
use Rattle.std.proofs.Common.{◌≡◌, ℕ, ◌<◌, subst, arith}
use Rattle.definitions.specs.Steps.{Logs}
use Rattle.definitions.specs.World.{Game}
use Rattle.definition_laws.specs.Stepping.{AreHonest}
use Rattle.grid_world.specs.Sessions.{IsSession}
use Rattle.schedule.specs.declared.stands.Stand.TheVariants.{Behind}
use Rattle.schedule.specs.Stands.{stand}
use Rattle.schedule.proofs.Ended.{behind_low}

pub place_low : (game session : Game) (logs : Logs) (p q place : ℕ) → IsSession session → session ≡ game → AreHonest game logs → stand game logs ≡ Behind p q place → place < 4294967295
place_low game session logs p q place is same honest at =
    let w : IsSession game = subst IsSession same is in
    let low = behind_low game logs w.ahead.0 honest p q place at in
    let few = w.turns.1 in
    omega (arith, low, few)
