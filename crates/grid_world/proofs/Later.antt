-- A session of version 1 as one of version 2.
use Rattle.std.proofs.Common.{◌≡◌, ℕ, Bool, true, false, List, length, Result, Ok, Err, refl, sym, ap, subst, ◌∙◌, arith}
use Rattle.std.specs.Prelude.{IfOk, ◌==◌, if◌then◌else◌}
use Rattle.sha2.specs.Sha256.{sha256}
use Rattle.definitions.specs.World.{Game}
use Rattle.grid_world.specs.Answers.{IsReadFrom}
use Rattle.grid_world.specs.Sessions.{IsSession}
use Rattle.grid_world.specs.Text.{session_text, upgraded}
use Rattle.grid_world.proofs.Kept.{length-sha256}

-- it is a session
pub later_session : (game : Game) (id : List ℕ) → IsSession game → length id ≡ 32 → IsSession (record game { version = 2; id = id })
later_session game id facts bytes =
    record {
      version = (omega arith, omega arith);
      id = bytes;
      grid = facts.grid;
      speed = facts.speed;
      reach = facts.reach;
      blast = facts.blast;
      start_charge = facts.start_charge;
      cap = facts.cap;
      cost = facts.cost;
      turns = facts.turns;
      ahead = facts.ahead;
      players = facts.players;
      turns_of_all = facts.turns_of_all;
      seats = facts.seats;
      starts = facts.starts;
      of_version_1 = λ is. absurd (omega (arith, is));
    }

-- a text doesn't depend on the id of its session
pub session_text-id : (game : Game) (id : List ℕ) → session_text (record game { id = id }) ≡ session_text game
unfolding session_text
session_text-id game id = refl

-- it is read from its own text, if its id is the digest of the text
pub later_reads : {E : Type 0} (game : Game) (before id : List ℕ) (r : Result Game E) → IsSession game → id ≡ sha256 (session_text (record game { version = 2; id = before }))
    → IfOk r (λ s. s ≡ record game { version = 2; id = id }) → IfOk r (λ s. IsReadFrom s (session_text s))
later_reads game before id (Ok s) facts digest is =
    let text : List ℕ = session_text (record game { version = 2; id = id }) in
    let same : sha256 (session_text (record game { version = 2; id = before })) ≡ sha256 text = ap sha256 (session_text-id (record game { version = 2; id = id }) before) in
    let made : IsReadFrom (record game { version = 2; id = id }) text = record {
      session = later_session game id facts (ap length digest ∙ length-sha256 (session_text (record game { version = 2; id = before })));
      text_is = refl;
      id_is = digest ∙ same;
    } in
    subst (λ (g : Game). IsReadFrom g (session_text g)) (sym is) made
later_reads game before id (Err e) facts digest is = tt

-- what a text says is read again in version 2 from the text of the upgraded session
pub upgraded_read : (game : Game) (text : List ℕ) → IsReadFrom game text → IsReadFrom (upgraded game) (session_text (upgraded game))
upgraded_read game text from = go (game.version == 1)
  where
    id : List ℕ
    id = sha256 (session_text (record game { version = 2 }))

    go : (b : Bool) → IsReadFrom (if b then record game { version = 2; id = id } else game) (session_text (if b then record game { version = 2; id = id } else game))
    go true = record {
      session = later_session game id from.session (length-sha256 (session_text (record game { version = 2 })));
      text_is = refl;
      id_is = ap sha256 (sym (session_text-id (record game { version = 2 }) id));
    }
    go false = subst (λ (t : List ℕ). IsReadFrom game t) from.text_is from
