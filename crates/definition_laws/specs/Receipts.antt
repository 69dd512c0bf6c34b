-- Laws on fair play: no lookahead, and moves that open what was committed.
use Rattle.std.specs.Prelude.{◌≡◌, ℕ, ◌<◌, ◌≤◌, List, ◌∷◌, ◌++◌, Some, IsTrue}
use Rattle.definitions.specs.declared.world.Move.{Move}
use Rattle.definitions.specs.declared.openings.Nonce.{Nonce}
use Rattle.definitions.specs.declared.openings.Digest.{Digest}
use Rattle.definitions.specs.declared.frames.TurnFrame.{TurnFrame}
use Rattle.definitions.specs.declared.frames.TurnFrame.TheVariants.{Commit, Reveal}
use Rattle.definitions.specs.declared.logs.Entry.{Entry}
use Rattle.definitions.specs.declared.logs.Entry.TheVariants.{Got, Made}
use Rattle.definitions.specs.World.{Game, players_of}
use Rattle.definitions.specs.Openings.{commitment}
use Rattle.definitions.specs.Logs.{frames_of}
use Rattle.definitions.specs.Held.{held, resolved, digest_of}
use Rattle.definitions.specs.Meets.{meets}
use Rattle.definitions.specs.Entries.{AreWellFormed}
use Rattle.definitions.specs.Honest.{IsHonest}
use Rattle.definition_laws.specs.Members.{Has}

-- a reveal that an honest log made stands behind a received commitment of each other player whose sphere met the owner's,
-- and the digest held is that one
abbrev pub RevealsStandBehind : Type 0
RevealsStandBehind = (game : Game) (me t q : ℕ) (g rest : List Entry) (m : Move) (n : Nonce) → 1 ≤ game.ahead →
    IsHonest game me (g ++ Made (Reveal me t m n) ∷ rest) → q < players_of game → (q ≡ me → ⊥) → IsTrue (meets game me g q t) →
    (d : Digest) × (held game me g q t ≡ Some d) × Has g (Got q (Commit q t d))

-- a move that is resolved opens the digest held, by a frame of the player's stream
abbrev pub ResolvedOpens : Type 0
ResolvedOpens = (game : Game) (me q t : ℕ) (h : List Entry) (m : Move) → resolved game me h q t ≡ Some m →
    (d : Digest) × (p : ℕ) × (n : Nonce) × (front : List TurnFrame) × (rest : List TurnFrame) × (held game me h q t ≡ Some d) ×
    (frames_of me q h ≡ front ++ Reveal p t m n ∷ rest) × (digest_of game (Reveal p t m n) ≡ d)

-- a move that a well-formed log resolves of another player was received from it, behind or before its commitment, and the
-- digest held is the commitment to that opening
abbrev pub ResolvedWereReceived : Type 0
ResolvedWereReceived = (game : Game) (me q t : ℕ) (h : List Entry) (m : Move) → AreWellFormed game me h → (q ≡ me → ⊥) → resolved game me h q t ≡ Some m →
    (d : Digest) × (n : Nonce) × (held game me h q t ≡ Some d) × Has h (Got q (Commit q t d)) × Has h (Got q (Reveal q t m n)) ×
    (d ≡ commitment game.id (record { player = q; turn = t; mv = m; nonce = n }))
