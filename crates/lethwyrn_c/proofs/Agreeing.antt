-- Agreeing: a seal that one handle writes is valid for each handle of its session.
use Rattle.std.proofs.Common.{◌≡◌, ◌≤◌, ◌<◌, ℕ, ◌+◌, Bool, true, false, List, ◌++◌, length, take, drop, refl, sym, ap, ◌∙◌, subst, arith}
use Rattle.std.specs.Prelude.{Option, Some, None, Ok, not, option_map, nat_lt, if◌then◌else◌}
use Rattle.std.proofs.lemmas.Bool.{and_parts, lt-ltb, ltb-true}
use Rattle.std.proofs.Math.Nat.{min-le_right}
use Rattle.std.proofs.Math.Seq.{take-append_seam}
use Rattle.commitment.specs.Spelling.{turn_frame_of}
use Rattle.definitions.specs.declared.frames.TurnFrame.{TurnFrame}
use Rattle.definitions.specs.declared.frames.TurnFrame.TheVariants.{Commit, Reveal}
use Rattle.definitions.specs.World.{Game}
use Rattle.definitions.specs.Logs.{turn_of}
use Rattle.definitions.specs.Places.{commit_place, reveal_place}
use Rattle.definitions.specs.Answers.{place_of}
use Rattle.grid_world.specs.Reading.{game_at}
use Rattle.grid_world.specs.Sessions.{IsSession}
use Rattle.seal_keys.specs.declared.answer.SealAnswer.{SealAnswer}
use Rattle.seal_keys.specs.declared.answer.SealAnswer.TheVariants.{Done, Used, Foreign}
use Rattle.seal_keys.specs.Keys.{places, root_of}
use Rattle.seal_keys.specs.Seals.{is_valid, message, seal_len, seal_of}
use Rattle.seal_keys.specs.States.{Keys, after_seal, is_own, room_after, seal_answer}
use Rattle.seal_keys.proofs.Heights.{tree_height_enough}
use Rattle.seal_keys.proofs.Roots.{length-seal_of, root_of_seal, valid_of}
use Rattle.lethwyrn_c.specs.Agreeing.{SealRun, SealsAreTaken, keyed, wished}
use Rattle.lethwyrn_c.specs.Codes.{code_of_seal}
use Rattle.lethwyrn_c.specs.Sealers.{Sealing, fresh_keys}
use Rattle.lethwyrn_c.specs.Sealing as L

-- ---- behind whatever calls there are keys of the session

game_after : (keys : Keys) (f : TurnFrame) (answer : SealAnswer) → (after_seal keys f answer).game ≡ keys.game
unfolding after_seal
game_after keys f Done = refl
game_after keys f Used = refl
game_after keys f Foreign = refl

game_of_frame : (room : ℕ) (keys : Keys) (o : Option TurnFrame) → (L.frame_sealed room o keys).game ≡ keys.game
game_of_frame room keys None = refl
game_of_frame room keys (Some f) = go (nat_lt room (seal_len keys.game))
  where
    go : (b : Bool) → (if b then keys else after_seal keys f (seal_answer keys f)).game ≡ keys.game
    go true = refl
    go false = game_after keys f (seal_answer keys f)

record HasKeysOf (text : List ℕ) (s : Sealing) : Type 0 where
  keys : Keys
  keys_are : s.keys ≡ Some keys
  of_session : keys.game ≡ s.game
  said : game_at text ≡ Ok s.game
  session : IsSession s.game

keys_of_run : (text : List ℕ) (player : ℕ) (seed : List ℕ) (u : Sealing) → SealRun text player seed u → HasKeysOf text u
keys_of_run text player seed u (keyed s is) =
    record { keys = fresh_keys s.game player seed; keys_are = is.keys_are; of_session = refl; said = is.said; session = is.read.session }
keys_of_run text player seed u (wished frame room s r) =
    let k = keys_of_run text player seed s r in
    record {
      keys = L.frame_sealed room (turn_frame_of frame) k.keys;
      keys_are = ap (option_map (L.frame_sealed room (turn_frame_of frame))) k.keys_are;
      of_session = game_of_frame room k.keys (turn_frame_of frame) ∙ k.of_session;
      said = k.said;
      session = k.session;
    }

-- ---- what is sealed is valid

-- a frame whose turn is played has one of the places
place_within : (game : Game) (f : TurnFrame) → 1 ≤ game.ahead → turn_of f < game.turns → place_of game f < places game
unfolding place_of commit_place reveal_place
place_within game (Commit p t d) ahead lt = rw (lt-ltb t game.turns lt) (omega (arith, ahead, lt))
place_within game (Reveal p t m n) ahead lt =
    let least = min-le_right (t + game.ahead) game.turns in
    rw (lt-ltb t game.turns lt) (omega (arith, least, lt))

-- what is sealed is the player's, and its turn is played
own_of_done : (keys : Keys) (f : TurnFrame) → seal_answer keys f ≡ Done → turn_of f < keys.game.turns
unfolding seal_answer
own_of_done keys f is = ltb-true (turn_of f) keys.game.turns (and_parts _ _ (own (is_own keys f) _ is)).1
  where
    own : (b : Bool) (other : SealAnswer) → (if not b then Foreign else other) ≡ Done → b ≡ true
    own true other e = refl
    own false other e = absurd (cc)

valid_seal : (keys : Keys) (f : TurnFrame) → IsSession keys.game → turn_of f < keys.game.turns →
    is_valid keys.game (root_of keys.game keys.seed) f (seal_of keys.game keys.seed (place_of keys.game f) (message keys.game f)) ≡ true
valid_seal keys f session lt =
    let game = keys.game in let place = place_of game f in let m = message game f in
    valid_of game (root_of game keys.seed) (seal_of game keys.seed place m) f lt (length-seal_of game keys.seed place m)
    (root_of_seal game keys.seed place m (place_within game f session.ahead.0 lt) (tree_height_enough game session.turns.1))

-- the front of the bytes is the seal
seal_at_front : (keys : Keys) (f : TurnFrame) (out : List ℕ) → take (seal_len keys.game) (L.front_after keys f Done out) ≡ seal_of keys.game keys.seed (place_of keys.game f) (message keys.game f)
unfolding room_after
seal_at_front keys f out =
    let seal = seal_of keys.game keys.seed (place_of keys.game f) (message keys.game f) in
    let rest = drop (seal_len keys.game) out in
    ap (λ (n : ℕ). take n (seal ++ rest)) (sym (length-seal_of keys.game keys.seed (place_of keys.game f) (message keys.game f))) ∙ take-append_seam seal rest

judged_by_answer : (keys : Keys) (f : TurnFrame) (out : List ℕ) → IsSession keys.game → (answer : SealAnswer) → seal_answer keys f ≡ answer → code_of_seal answer ≡ 0 →
    L.judged_code keys.game (root_of keys.game keys.seed) (Some f) (take (L.count_after keys answer) (L.front_after keys f answer out)) ≡ 0
judged_by_answer keys f out session Done is ok =
    ap (λ (b : Bool). if b then 0 else 23)
    (ap (is_valid keys.game (root_of keys.game keys.seed) f) (seal_at_front keys f out) ∙ valid_seal keys f session (own_of_done keys f is))
judged_by_answer keys f out session Used is ok = absurd (omega (arith, ok))
judged_by_answer keys f out session Foreign is ok = absurd (omega (arith, ok))

judged_of_frame : (keys : Keys) (out : List ℕ) → IsSession keys.game → (o : Option TurnFrame) → L.frame_sealed_code keys (length out) o ≡ 0 →
    L.judged_code keys.game (root_of keys.game keys.seed) o (take (L.frame_sealed_count keys (length out) o) (L.frame_sealed_out keys o out)) ≡ 0
judged_of_frame keys out session None ok = absurd (omega (arith, ok))
judged_of_frame keys out session (Some f) ok = go (nat_lt (length out) (seal_len keys.game)) ok
  where
    go : (b : Bool) → (if b then 17 else code_of_seal (seal_answer keys f)) ≡ 0 →
        L.judged_code keys.game (root_of keys.game keys.seed) (Some f)
        (take (if b then 0 else L.count_after keys (seal_answer keys f)) (if b then out else L.front_after keys f (seal_answer keys f) out)) ≡ 0
    go true ok = absurd (omega (arith, ok))
    go false ok = judged_by_answer keys f out session (seal_answer keys f) refl ok

-- by what stands behind the two handles
judged_with : (game : Game) (keys : Keys) (frame out root : List ℕ) → keys.game ≡ game → IsSession keys.game → (o : Option Keys) → o ≡ Some keys →
    L.keys_code (λ keys. L.frame_sealed_code keys (length out) (turn_frame_of frame)) o ≡ 0 →
    L.judged_code game (L.keys_told (λ keys out. root_of keys.game keys.seed) o root) (turn_frame_of frame)
    (take (L.keys_told (λ keys old. L.frame_sealed_count keys (length out) (turn_frame_of frame)) o 0) (L.keys_told (λ keys old. L.frame_sealed_out keys (turn_frame_of frame) old) o out)) ≡ 0
judged_with game keys frame out root same session o is ok =
    let Judged : Game → Option Keys → Type 0 = λ g o. L.judged_code g (L.keys_told (λ keys out. root_of keys.game keys.seed) o root) (turn_frame_of frame)
    (take (L.keys_told (λ keys old. L.frame_sealed_count keys (length out) (turn_frame_of frame)) o 0) (L.keys_told (λ keys old. L.frame_sealed_out keys (turn_frame_of frame) old) o out)) ≡ 0 in
    let IsOk : Option Keys → Type 0 = λ o. L.keys_code (λ keys. L.frame_sealed_code keys (length out) (turn_frame_of frame)) o ≡ 0 in
    subst (λ (g : Game). Judged g o) same (subst (Judged keys.game) (sym is) (judged_of_frame keys out session (turn_frame_of frame) (subst IsOk is ok)))

pub seals_taken : SealsAreTaken
seals_taken text player seed s judge frame out root r j ok =
    let k = keys_of_run text player seed s r in
    let a = k.said in let b = j.said in
    let same : s.game ≡ judge.game = cc in
    judged_with judge.game k.keys frame out root (k.of_session ∙ same) (subst IsSession (sym k.of_session) k.session) s.keys k.keys_are ok
