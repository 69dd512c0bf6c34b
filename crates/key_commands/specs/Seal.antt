-- Seal: the answer to `seal`, and what is behind it.
use Rattle.std.specs.Prelude.{◌≡◌, ◌<◌, ◌≤◌, ℕ, List, [], ◌++◌, None, Result, Ok, Err, IsTrue, flat_map, length, replicate}
use Rattle.definitions.specs.declared.frames.TurnFrame.{TurnFrame}
use Rattle.definitions.specs.World.{Game}
use Rattle.definitions.specs.Logs as L
use Rattle.definitions.specs.Answers.{place_of}
use Rattle.definitions.specs.declared.limits.TheConstants.{LONGEST_LOG}
use Rattle.definitions.specs.Lists.{EachIs, item_or}
use Rattle.commitment.specs.Spelling.{FitsFrame, frame_bytes}
use Rattle.seal_keys.specs.Keys.{places, root_of}
use Rattle.seal_keys.specs.Seals.{is_valid, message, seal_of}
use Rattle.seal_keys.specs.States.{Keys}
use Rattle.seal_blame.specs.Made.{AreMade}
use Rattle.sealed_files.specs.SealedFrames.{first_bad}
use Rattle.run_frame.specs.Frame.{Answer, bare_answer}
use Rattle.run_frame.specs.declared.statuses.Status.{Status}
use Rattle.run_frame.specs.declared.statuses.Status.TheVariants.{Done}
use Rattle.key_commands.specs.declared.opening.SealSource.{SealSource}
use Rattle.key_commands.specs.Opened.{Keyed, Sealed}

-- a frame's spelling, and a seal after it
abbrev pub with_seal : TurnFrame → List ℕ → List ℕ
with_seal f seal = frame_bytes f ++ seal

-- the frame's seal by the keys of the seed
abbrev pub its_seal : Game → (seed : List ℕ) → TurnFrame → List ℕ
its_seal game seed f = seal_of game seed (place_of game f) (message game f)

-- a frame with that seal
abbrev pub sealed_frame : Game → (seed : List ℕ) → TurnFrame → List ℕ
sealed_frame game seed f = with_seal f (its_seal game seed f)

-- those of each of these frames, one after the other
abbrev pub sealed_frames : Game → (seed : List ℕ) → List TurnFrame → List ℕ
sealed_frames game seed fs = flat_map (sealed_frame game seed) fs

-- what is sealed of a peer's log
abbrev pub sealed_by : SealSource → Sealed
sealed_by s = record { keys = record { game = s.peer.game; seed = s.seed }; made = L.made s.peer.entries }

-- the answer: the frames that the player made, each with its seal, where there is something to seal
abbrev pub seal_answer : Result Sealed Status → Answer
seal_answer (Err status) = bare_answer status
seal_answer (Ok s) = record { body = sealed_frames s.keys.game s.keys.seed s.made; status = Done }

-- the seal that stands behind the frame is valid for it under the root of the keys
abbrev pub HasValidSeal : Keyed → TurnFrame → Type 0
HasValidSeal k f = IsTrue (is_valid k.game (root_of k.game k.seed) f (its_seal k.game k.seed f))

-- the player has a root among these, and it is that of the keys
abbrev pub HasRoot : List (List ℕ) → (player : ℕ) → Keyed → Type 0
HasRoot roots player k =
    (player < length roots) × (item_or roots player [] ≡ root_of k.game k.seed)

-- By roots that have the player's, the frames with their seals have no fault as a file of sealed
-- frames. Given is that the frames' numbers fit their fields, and that the file isn't too long.
abbrev pub IsFileOfSealed : (player : ℕ) → Sealed → Type 0
IsFileOfSealed player s = (roots : List (List ℕ)) →
    HasRoot roots player s.keys → EachIs FitsFrame s.made →
    length (sealed_frames s.keys.game s.keys.seed s.made) ≤ LONGEST_LOG →
    first_bad s.keys.game roots (sealed_frames s.keys.game s.keys.seed s.made) ≡ None

-- What is behind what is sealed for this player.
pub record TellsSeals (player : ℕ) (s : Sealed) : Type 0 where
  -- the frames are the player's, and made in fair play
  pub fair : AreMade s.keys.game player s.made
  -- and behind each stands a seal that is valid for it under the root of the player's keys
  pub valid : EachIs (HasValidSeal s.keys) s.made
  -- so what is written has no fault as a file of sealed frames, by roots that have the player's
  pub file : IsFileOfSealed player s

-- the keys of the peer's player, by the seed, of which nothing was sealed yet
abbrev pub new_keys : SealSource → Keys
new_keys s = record { game = s.peer.game; player = s.peer.me; seed = s.seed; sealed = replicate (places s.peer.game) None }
