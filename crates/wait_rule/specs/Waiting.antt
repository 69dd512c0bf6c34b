-- Waiting: whom a player waits for, by what is known of the others and where they were last seen.
use Rattle.std.specs.Prelude.{ℕ, ◌-◌, ◌<◌, ◌≤◌, Bool, true, not, ◌&&◌, ◌==◌, List, [], ◌∷◌, flat_map, nat_le, nat_lt, IsTrue, if◌then◌else◌}
use Rattle.std.specs.List.{range_with_len}
use Rattle.definitions.specs.declared.world.Cell.{Cell}
use Rattle.definitions.specs.declared.frames.What.TheVariants as F
use Rattle.definitions.specs.declared.answers.Need.{Need}
use Rattle.definitions.specs.Lists.{item_or}
use Rattle.definitions.specs.World.{Game, players_of, is_open}
use Rattle.definitions.specs.Walk.{reach_of}
use Rattle.definitions.specs.Sphere.{sphere_of, have_common}
use Rattle.dilation.specs.Dilated.{cell_of}
use Rattle.wait_rule.specs.declared.views.View.{View}
use Rattle.wait_rule.specs.declared.views.Stage.{Stage}
use Rattle.wait_rule.specs.declared.views.Stage.TheVariants.{Commit, Reveal, After}

-- a stage of the session: its turn is played, and its cell, where it matters, is open
abbrev pub IsStage : Game → Stage → Type 0
IsStage game (Commit t last) = (t < game.turns) × (game.ahead ≤ t → IsTrue (is_open game.grid last))
IsStage game (Reveal t at) = (t < game.turns) × IsTrue (is_open game.grid at)
IsStage game After = Unit {0}

-- the next own frame waits for others: the commitments to the first turns don't
abbrev pub waits : Game → Stage → Bool
waits game (Commit t last) = nat_le game.ahead t
waits game (Reveal t at) = true
waits game After = true

-- nothing is known of a player
abbrev pub no_view : View
no_view = record { resolved = 0; next = 0; commits = 0 }

-- the sphere of me, who stands at `at` before turn t, meets that of q, of whom so many turns are resolved, which led to `from`
abbrev pub meets_at : Game → (me : ℕ) → (at : Cell) → (q resolved : ℕ) → (from : Cell) → (t : ℕ) → Bool
meets_at game me at q resolved from t =
    nat_le resolved t && have_common (sphere_of game me (at ∷ [])) (sphere_of game q (reach_of game q (t - resolved) (from ∷ [])))

-- the commitment to the turn is held of a player of whom this is known
abbrev pub holds : View → ℕ → Bool
holds v t = nat_lt t v.commits

-- the next own frame waits for q, of whom this is known, and who was last seen here
abbrev pub hinders : Game → ℕ → Stage → ℕ → View → Cell → Bool
hinders game me (Commit t last) q v from = meets_at game me last q v.resolved from (t - game.ahead)
hinders game me (Reveal t at) q v from = not (holds v t) && meets_at game me at q v.resolved from t
hinders game me After q v from = nat_lt v.resolved game.turns

-- what is needed of q
abbrev pub need_of : Game → Stage → ℕ → View → Need
need_of game (Commit t last) q v = record { player = q; turn = t - game.ahead; next = v.next; what = F.Reveal }
need_of game (Reveal t at) q v = record { player = q; turn = t; next = v.next; what = F.Commit }
need_of game After q v = record { player = q; turn = game.turns - 1; next = v.next; what = F.Reveal }

-- the need of q, where it is another player and is waited for
abbrev pub need_if : Game → ℕ → Stage → ℕ → View → Cell → List Need
need_if game me stage q v from = if q == me then [] else if hinders game me stage q v from then need_of game stage q v ∷ [] else []

-- the need of q, by the lists of what is known and of the cells
abbrev pub need_in : Game → ℕ → Stage → List View → List Cell → ℕ → List Need
need_in game me stage views cells q = need_if game me stage q (item_or views q no_view) (cell_of cells q)

-- whom me waits for, by rising player
unfoldable pub needs_of : Game → ℕ → Stage → List View → List Cell → List Need
needs_of game me stage views cells =
    if waits game stage then flat_map (need_in game me stage views cells) (range_with_len 0 (players_of game)) else []
