-- Root: the answer to `root`, and what is behind it.
use Rattle.std.specs.Prelude.{◌≡◌, ℕ, List, Some, Result, Ok, Err}
use Rattle.seal_keys.specs.Keys.{root_of}
use Rattle.seal_keys.specs.Laws.{SealsAreValid}
use Rattle.roots.specs.Reading.{root_said}
use Rattle.roots.specs.Text.{root_line}
use Rattle.run_frame.specs.Frame.{Answer, bare_answer}
use Rattle.run_frame.specs.declared.statuses.Status.{Status}
use Rattle.run_frame.specs.declared.statuses.Status.TheVariants.{Done}
use Rattle.key_commands.specs.Opened.{Keyed}

-- the answer: the line of the root of the player's keys, where there is something that they come from
abbrev pub root_answer : (player : ℕ) → Result Keyed Status → Answer
root_answer player (Err status) = bare_answer status
root_answer player (Ok k) = record { body = root_line player (root_of k.game k.seed); status = Done }

-- What is behind an answer with this body to these keys.
pub record TellsRoot (player : ℕ) (k : Keyed) (body : List ℕ) : Type 0 where
  -- it is read, as a line of the roots' text, as the player's root
  pub read : root_said player body ≡ Some (root_of k.game k.seed)
  -- and under the root of any keys each frame's seal by them is valid
  pub seals : SealsAreValid
