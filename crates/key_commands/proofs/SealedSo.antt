-- SealedSo: the frames of fair play are sealed one after the other, each at a place of which nothing was sealed before.
use Rattle.std.proofs.Common.{◌≡◌, ◌≤◌, ◌<◌, ℕ, ◌+◌, true, List, ◌++◌, Option, None, Some, drop, refl, sym, ap, ◌∙◌, subst, arith, nat_lt}
use Rattle.std.specs.Prelude.{◌==◌, slice_get, slice_set}
use Rattle.std.proofs.lemmas.Bool.{eq-eqb, lt-ltb}
use Rattle.definitions.specs.declared.frames.TurnFrame.{TurnFrame}
use Rattle.definitions.specs.declared.logs.Entry.{Entry}
use Rattle.definitions.specs.World.{Game}
use Rattle.definitions.specs.Answers.{place_of}
use Rattle.definitions.specs.Lists.{item_or}
use Rattle.definitions.specs.Honest.{IsHonest}
use Rattle.definitions.specs.Logs.{made, player_of, turn_of}
use Rattle.seal_keys.specs.Seals.{message, seal_of}
use Rattle.seal_keys.specs.States.{Keys, after_seal, room_after, seal_answer}
use Rattle.seal_keys.specs.declared.answer.SealAnswer.{SealAnswer}
use Rattle.seal_keys.specs.declared.answer.SealAnswer.TheVariants.{Done}
use Rattle.seal_blame.proofs.Honestly.{made_so}
use Rattle.key_commands.specs.Seal.{sealed_frame, sealed_frames, with_seal}
use Rattle.key_commands.specs.Unused.{IsUnusedFrom}
use Rattle.key_commands.proofs.Lists.{flat_some, past_put}

-- The frame stands at this place of its player's stream, and nothing was sealed there.
pub record IsNext (keys : Keys) (f : TurnFrame) (place : ℕ) : Type 0 where
  pub player : player_of f ≡ keys.player
  pub turn : turn_of f < keys.game.turns
  pub stands : place_of keys.game f ≡ place
  pub unused : IsUnusedFrom keys.sealed place

-- so it is sealed
pub done : (keys : Keys) (f : TurnFrame) (place : ℕ) → IsNext keys f place → seal_answer keys f ≡ Done
unfolding seal_answer
done keys f place n =
    let own : (player_of f == keys.player) ≡ true = eq-eqb (player_of f) keys.player n.player in
    let played : nat_lt (turn_of f) keys.game.turns ≡ true = lt-ltb (turn_of f) keys.game.turns n.turn in
    let free : item_or keys.sealed (place_of keys.game f) None ≡ None = ap (λ (k : ℕ). item_or keys.sealed k None) n.stands ∙ n.unused place (omega arith) in
    rw (own, played, free) refl

module _ (keys after : Keys) (f : TurnFrame) (place : ℕ) (n : IsNext keys f place) (answer : SealAnswer) (answered : answer ≡ seal_answer keys f) (is : after ≡ after_seal keys f answer) where
  is_done : answer ≡ Done
  is_done = answered ∙ done keys f place n

  after_is : after ≡ after_seal keys f Done
  after_is = is ∙ ap (after_seal keys f) is_done

  -- the keys are the same but for what was sealed
  pub game_stays : after.game ≡ keys.game
  unfolding after_seal
  game_stays = ap (λ (k : Keys). k.game) after_is

  pub player_stays : after.player ≡ keys.player
  unfolding after_seal
  player_stays = ap (λ (k : Keys). k.player) after_is

  pub seed_stays : after.seed ≡ keys.seed
  unfolding after_seal
  seed_stays = ap (λ (k : Keys). k.seed) after_is

  -- and nothing was sealed from the next place on
  pub unused_next : IsUnusedFrom after.sealed (place + 1)
  unfolding after_seal
  unused_next k past =
      let put : List (Option (List ℕ)) = slice_set keys.sealed (place_of keys.game f) (Some (message keys.game f)) in
      let sealed : after.sealed ≡ put = ap (λ (k : Keys). k.sealed) after_is in
      let at = n.stands in
      ap (λ (s : List (Option (List ℕ))). item_or s k None) sealed ∙ past_put keys.sealed (place_of keys.game f) k (Some (message keys.game f)) (omega (arith, past, at)) ∙ n.unused k (omega (arith, past))

  -- the room for the seal has it
  pub seal_is : (old new : List ℕ) → new ≡ room_after keys f answer old → new ≡ seal_of keys.game keys.seed (place_of keys.game f) (message keys.game f)
  unfolding room_after
  seal_is old new e = e ∙ ap (λ (a : SealAnswer). room_after keys f a old) is_done

-- the frame that fair play made at this place is the next one
pub next_of : (keys : Keys) (game : Game) (me place : ℕ) (h : List Entry) (f : TurnFrame) → keys.game ≡ game → keys.player ≡ me → 1 ≤ game.ahead → IsHonest game me h →
    Some f ≡ slice_get (made h) place → IsUnusedFrom keys.sealed place → IsNext keys f place
next_of keys game me place h f game_is player_is ahead honest at unused =
    let placed = (made_so game me h ahead honest).placed place f (sym at) in
    record {
      player = placed.0 ∙ sym player_is;
      turn = subst (λ (g : Game). turn_of f < g.turns) (sym game_is) placed.1;
      stands = ap (λ (g : Game). place_of g f) game_is ∙ placed.2;
      unused = unused;
    }

-- what is still to be written before it and after it
pub sealed_step : (keys : Keys) (game : Game) (seed : List ℕ) (place : ℕ) (made : List TurnFrame) (f : TurnFrame) (seal : List ℕ) → keys.game ≡ game → keys.seed ≡ seed → Some f ≡ slice_get made place →
    seal ≡ seal_of keys.game keys.seed (place_of keys.game f) (message keys.game f) →
    sealed_frames game seed (drop place made) ≡ with_seal f seal ++ sealed_frames game seed (drop (place + 1) made)
sealed_step keys game seed place made f seal game_is seed_is at is =
    let rest : List ℕ = sealed_frames game seed (drop (place + 1) made) in
    flat_some (sealed_frame game seed) made place f (sym at)
    ∙ ap (λ (g : Game). with_seal f (seal_of g seed (place_of g f) (message g f)) ++ rest) (sym game_is)
    ∙ ap (λ (s : List ℕ). with_seal f (seal_of keys.game s (place_of keys.game f) (message keys.game f)) ++ rest) (sym seed_is)
    ∙ ap (λ (s : List ℕ). with_seal f s ++ rest) (sym is)
