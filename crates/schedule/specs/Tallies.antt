-- Tallies: how often a peer gave each answer to frames.
use Rattle.std.specs.Prelude.{ℕ, ◌+◌, ◌-◌, ◌^◌, List, min, slice_set}
use Rattle.definitions.specs.declared.answers.GotAnswer.{GotAnswer}
use Rattle.definitions.specs.declared.answers.GotAnswer.TheVariants as G
use Rattle.definitions.specs.Lists.{item_or}
use Rattle.schedule.specs.declared.steps.StepAnswer.{StepAnswer}
use Rattle.schedule.specs.declared.steps.StepAnswer.TheVariants.{Chosen, Refused, Got, NotHonest, NotHostile, NoFrame, Stopped, BadCut}
use Rattle.schedule.specs.declared.tallies.Tally.{Tally}

-- no frame was answered
abbrev pub no_tally : Tally
no_tally = record { taken = 0; stashed = 0; same = 0; far = 0; foreign = 0; caught = 0; closed = 0 }

-- one more, up to the greatest number
abbrev pub up : ℕ → ℕ
up n = min (n + 1) (2 ^ 32 - 1)

-- the tally with one answer more
abbrev pub counted : Tally → GotAnswer → Tally
counted t G.Taken = record t { taken = up t.taken }
counted t G.Stashed = record t { stashed = up t.stashed }
counted t G.Same = record t { same = up t.same }
counted t G.Far = record t { far = up t.far }
counted t G.Foreign = record t { foreign = up t.foreign }
counted t (G.Caught f) = record t { caught = up t.caught }
counted t G.Closed = record t { closed = up t.closed }

-- the tallies, in order of player, after a step of this player that was answered so
abbrev pub tallied : List Tally → ℕ → StepAnswer → List Tally
tallied ts p (Chosen turn) = ts
tallied ts p (Refused fault) = ts
tallied ts p (Got a) = slice_set ts p (counted (item_or ts p no_tally) a)
tallied ts p NotHonest = ts
tallied ts p NotHostile = ts
tallied ts p NoFrame = ts
tallied ts p Stopped = ts
tallied ts p BadCut = ts
