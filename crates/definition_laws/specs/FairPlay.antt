-- Fair play: what an honest log shows of the protocol.
use Rattle.std.specs.Prelude.{◌≡◌, ◌⊎◌, ℕ, ◌<◌, ◌≤◌, List, ◌∷◌, ◌++◌, Some, IsSome, IsTrue}
use Rattle.definitions.specs.declared.world.Move.{Move}
use Rattle.definitions.specs.declared.openings.Nonce.{Nonce}
use Rattle.definitions.specs.declared.openings.Digest.{Digest}
use Rattle.definitions.specs.declared.frames.TurnFrame.{TurnFrame}
use Rattle.definitions.specs.declared.frames.TurnFrame.TheVariants.{Commit, Reveal}
use Rattle.definitions.specs.declared.logs.Entry.{Entry}
use Rattle.definitions.specs.declared.logs.Entry.TheVariants.{Got, Made}
use Rattle.definitions.specs.World.{Game, players_of}
use Rattle.definitions.specs.Openings.{commitment}
use Rattle.definitions.specs.Held.{held, resolved}
use Rattle.definitions.specs.Meets.{meets}
use Rattle.definitions.specs.Honest.{IsHonest}

-- among these entries is the one that brought the frame from the player
pub record IsGotIn (log : List Entry) (q : ℕ) (f : TurnFrame) : Type 0 where
  pub before : List Entry
  pub behind : List Entry
  pub log_is : log ≡ before ++ Got q f ∷ behind

-- the player's commitment to the turn, of which the digest is held, was received from it
pub record IsCommittedBy (game : Game) (me : ℕ) (log : List Entry) (q t : ℕ) : Type 0 where
  pub digest : Digest
  pub held_is : held game me log q t ≡ Some digest
  pub received : IsGotIn log q (Commit q t digest)

-- the move of the player's turn opens the digest held: it is the SHA-256 digest of the opening with this move and a nonce, and
-- both the commitment and the reveal that show this came from the player
pub record IsOpenedBy (game : Game) (me : ℕ) (log : List Entry) (q t : ℕ) (mv : Move) : Type 0 where
  pub digest : Digest
  pub nonce : Nonce
  pub held_is : held game me log q t ≡ Some digest
  pub opens : digest ≡ commitment game.id (record { player = q; turn = t; mv = mv; nonce = nonce })
  pub committed : IsGotIn log q (Commit q t digest)
  pub revealed : IsGotIn log q (Reveal q t mv nonce)

-- Each entry was allowed after those before it. Each reveal made stands behind a received commitment to its turn of every other
-- player whose dilated sphere met the owner's when the reveal was made, or whose turn was resolved by then. Each move accepted of
-- another player opens the digest held.
pub record IsFairPlay (game : Game) (me : ℕ) (log : List Entry) : Type 0 where
  pub honest : IsHonest game me log
  pub behind : (before after : List Entry) (q t : ℕ) (mv : Move) (nonce : Nonce) → log ≡ before ++ Made (Reveal me t mv nonce) ∷ after →
      q < players_of game → (q ≡ me → ⊥) → (IsTrue (meets game me before q t) ⊎ IsSome (resolved game me before q t)) → IsCommittedBy game me before q t
  pub opened : (q t : ℕ) (mv : Move) → (q ≡ me → ⊥) → resolved game me log q t ≡ Some mv → IsOpenedBy game me log q t mv

-- a log that is honest is one of fair play
abbrev pub HonestLogsAreFair : Type 0
HonestLogsAreFair = (game : Game) (me : ℕ) (log : List Entry) → 1 ≤ game.ahead → IsHonest game me log → IsFairPlay game me log
