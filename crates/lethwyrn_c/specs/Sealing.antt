-- Sealing: what the calls on a handle of seals answer and write, and what stands behind it then.
use Rattle.std.specs.Prelude.{◌≡◌, ℕ, List, ◌++◌, Option, Some, None, Ok, length, take, drop, option_map, nat_lt, if◌then◌else◌}
use Rattle.commitment.specs.Spelling.{turn_frame_of}
use Rattle.definitions.specs.declared.frames.TurnFrame.{TurnFrame}
use Rattle.definitions.specs.World.{Game}
use Rattle.grid_world.specs.Answers.{IsReadFrom}
use Rattle.grid_world.specs.Reading.{game_at}
use Rattle.seal_keys.specs.declared.answer.SealAnswer.{SealAnswer}
use Rattle.seal_keys.specs.declared.answer.SealAnswer.TheVariants.{Done, Used, Foreign}
use Rattle.seal_keys.specs.Keys.{root_of}
use Rattle.seal_keys.specs.Seals.{is_valid, seal_len}
use Rattle.seal_keys.specs.States.{Keys, after_seal, room_after, seal_answer}
use Rattle.lethwyrn_c.specs.Codes.{code_of_seal}
use Rattle.lethwyrn_c.specs.Sealers.{Sealing, fresh_keys}

-- ---- handles with and without a session, and with and without keys

-- what a call answers: 19 where there is no session
abbrev pub code_or : (Sealing → ℕ) → Option Sealing → ℕ
code_or f None = 19
code_or f (Some s) = f s

-- what a call answers that asks for keys: 20 where there are none
abbrev pub keys_code : (Keys → ℕ) → Option Keys → ℕ
keys_code f None = 20
keys_code f (Some keys) = f keys

-- what it writes: nothing where there are no keys
abbrev pub keys_told : {X : Type 0} → (Keys → X → X) → Option Keys → X → X
keys_told f None old = old
keys_told f (Some keys) old = f keys old

-- 0 where there is a session
abbrev pub session_there : Sealing → ℕ
session_there s = 0

-- ---- handles of seals are made

-- the session with this text, and no keys
pub record IsJudge (text : List ℕ) (s : Sealing) : Type 0 where
  pub said : game_at text ≡ Ok s.game
  pub read : IsReadFrom s.game text
  pub no_keys : s.keys ≡ None

-- the session with this text, and this player's keys by this seed, with which nothing was sealed
pub record HasKeys (text : List ℕ) (player : ℕ) (seed : List ℕ) (s : Sealing) : Type 0 where
  pub said : game_at text ≡ Ok s.game
  pub read : IsReadFrom s.game text
  pub keys_are : s.keys ≡ Some (fresh_keys s.game player seed)

-- ---- the length of seals, and the root

abbrev pub len_told : Sealing → ℕ → ℕ
len_told s old = seal_len s.game

abbrev pub root_code : Sealing → ℕ
root_code s = keys_code (λ keys. 0) s.keys

abbrev pub root_told : Sealing → List ℕ → List ℕ
root_told s old = keys_told (λ keys out. root_of keys.game keys.seed) s.keys old

-- ---- a frame is sealed

-- The code, by the frame that the bytes spell and the room for its seal: 21 where they spell none,
-- 17 where the room is too small, and else by what becomes of the wish to seal it.
abbrev pub frame_sealed_code : Keys → ℕ → Option TurnFrame → ℕ
frame_sealed_code keys room None = 21
frame_sealed_code keys room (Some f) = if nat_lt room (seal_len keys.game) then 17 else code_of_seal (seal_answer keys f)

-- the keys then
abbrev pub frame_sealed : ℕ → Option TurnFrame → Keys → Keys
frame_sealed room None keys = keys
frame_sealed room (Some f) keys = if nat_lt room (seal_len keys.game) then keys else after_seal keys f (seal_answer keys f)

-- The bytes for a seal after the answer. As many as a seal has are the room for it, and the others
-- stay.
abbrev pub front_after : Keys → TurnFrame → SealAnswer → List ℕ → List ℕ
front_after keys f answer out = room_after keys f answer (take (seal_len keys.game) out) ++ drop (seal_len keys.game) out

-- the bytes for a seal then
abbrev pub frame_sealed_out : Keys → Option TurnFrame → List ℕ → List ℕ
frame_sealed_out keys None out = out
frame_sealed_out keys (Some f) out = if nat_lt (length out) (seal_len keys.game) then out else front_after keys f (seal_answer keys f) out

-- how many of them are a seal
abbrev pub count_after : Keys → SealAnswer → ℕ
count_after keys Done = seal_len keys.game
count_after keys Used = 0
count_after keys Foreign = 0

abbrev pub frame_sealed_count : Keys → ℕ → Option TurnFrame → ℕ
frame_sealed_count keys room None = 0
frame_sealed_count keys room (Some f) = if nat_lt room (seal_len keys.game) then 0 else count_after keys (seal_answer keys f)

-- the same by the frame's bytes, of what stands behind the handle
abbrev pub seal_code : List ℕ → ℕ → Sealing → ℕ
seal_code frame room s = keys_code (λ keys. frame_sealed_code keys room (turn_frame_of frame)) s.keys

abbrev pub after_sealing : List ℕ → ℕ → Sealing → Sealing
after_sealing frame room s = record { game = s.game; keys = option_map (frame_sealed room (turn_frame_of frame)) s.keys }

abbrev pub seal_told : List ℕ → Sealing → List ℕ → List ℕ
seal_told frame s out = keys_told (λ keys old. frame_sealed_out keys (turn_frame_of frame) old) s.keys out

abbrev pub seal_count : List ℕ → ℕ → Sealing → ℕ → ℕ
seal_count frame room s none = keys_told (λ keys old. frame_sealed_count keys room (turn_frame_of frame)) s.keys none

-- ---- a seal is judged

-- The code, by the frame that the bytes spell: 21 where they spell none, 0 where the seal is valid,
-- else 23.
abbrev pub judged_code : Game → List ℕ → Option TurnFrame → List ℕ → ℕ
judged_code game root None seal = 21
judged_code game root (Some f) seal = if is_valid game root f seal then 0 else 23

abbrev pub valid_code : List ℕ → List ℕ → List ℕ → Sealing → ℕ
valid_code root frame seal s = judged_code s.game root (turn_frame_of frame) seal
