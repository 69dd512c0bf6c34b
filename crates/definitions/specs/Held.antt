-- What a log knows of a player: the commitments held, and the moves that opened them.
use Rattle.std.specs.Prelude.{ℕ, zero, suc, ◌+◌, ◌*◌, ◌&&◌, List, [], ◌∷◌, ◌++◌, Option, Some, None, length, min, nat_lt, slice_get, ◌==◌, if◌then◌else◌}
use Rattle.definitions.specs.declared.world.Move.{Move}
use Rattle.definitions.specs.declared.openings.Digest.{Digest}
use Rattle.definitions.specs.declared.frames.TurnFrame.{TurnFrame}
use Rattle.definitions.specs.declared.frames.TurnFrame.TheVariants.{Commit, Reveal}
use Rattle.definitions.specs.declared.logs.Entry.{Entry}
use Rattle.definitions.specs.Lists.{first_of}
use Rattle.definitions.specs.World.{Game}
use Rattle.definitions.specs.Moves.{is_legal, track_after}
use Rattle.definitions.specs.Openings.{commitment}
use Rattle.definitions.specs.Logs.{digest_eq, frames_of}

-- the digest that the frame commits the turn to
abbrev pub commit_of : ℕ → TurnFrame → Option Digest
commit_of t (Commit p u d) = if u == t then Some d else None
commit_of t (Reveal p u m n) = None

-- the digest of the first commitment to the turn among these frames
abbrev pub first_commit : List TurnFrame → ℕ → Option Digest
first_commit fs t = first_of (commit_of t) fs

-- the frame's digest: a commitment carries it, and a reveal's is that of its opening
unfoldable pub digest_of : Game → TurnFrame → Digest
digest_of game (Commit p t d) = d
digest_of game (Reveal p t m n) = commitment game.id (record { player = p; turn = t; mv = m; nonce = n })

-- the move of a reveal of the turn that opens the digest and is legal after the moves before
abbrev pub opening_of : Game → ℕ → List Move → Digest → ℕ → TurnFrame → Option Move
opening_of game q before d t (Commit p u e) = None
opening_of game q before d t (Reveal p u m n) =
    if (u == t) && digest_eq (digest_of game (Reveal p u m n)) d && is_legal game q (track_after game q before) m then Some m else None

-- the move of the first reveal of the turn that opens the digest and is legal after the moves before
abbrev pub first_opening : Game → ℕ → List Move → Digest → List TurnFrame → ℕ → Option Move
first_opening game q before d fs t = first_of (opening_of game q before d t) fs

-- the beginning of a player's stream: the digests of its commitments, and the moves of its reveals
pub record Known : Type 0 where
  pub digests : List Digest
  pub moves : List Move

-- as many places as are there
abbrev pub places_in : Known → ℕ
places_in k = length k.digests + length k.moves

-- with one commitment more, if there is one
abbrev pub with_commit : Known → Option Digest → Known
with_commit k None = k
with_commit k (Some d) = record { digests = k.digests ++ d ∷ []; moves = k.moves }

-- with one move more, if there is one
abbrev pub with_move : Known → Option Move → Known
with_move k None = k
with_move k (Some m) = record { digests = k.digests; moves = k.moves ++ m ∷ [] }

-- the move that opens the digest, if there is a digest
abbrev pub opened : Game → ℕ → List Move → List TurnFrame → ℕ → Option Digest → Option Move
opened game q before fs t None = None
opened game q before fs t (Some d) = first_opening game q before d fs t

-- one place further, if that place is there
unfoldable pub next_known : Game → ℕ → List TurnFrame → Known → Known
next_known game q fs k =
    if nat_lt (length k.digests) (min (length k.moves + game.ahead) game.turns)
    then with_commit k (first_commit fs (length k.digests))
    else if nat_lt (length k.moves) game.turns
    then with_move k (opened game q k.moves fs (length k.moves) (slice_get k.digests (length k.moves)))
    else k

-- what these frames show of the first n places of the player's stream, up to the first place that is not there
unfoldable pub known_to : Game → ℕ → List TurnFrame → ℕ → Known
known_to game q fs zero = record { digests = []; moves = [] }
known_to game q fs (suc n) = next_known game q fs (known_to game q fs n)

-- what the owner's log shows of the player's stream
unfoldable pub known : Game → ℕ → List Entry → ℕ → Known
known game me h q = known_to game q (frames_of me q h) (2 * game.turns)

-- the digest that the log holds for the player's turn
abbrev pub held : Game → ℕ → List Entry → ℕ → ℕ → Option Digest
held game me h q t = slice_get (known game me h q).digests t

-- the move by which the log resolves the player's turn
abbrev pub resolved : Game → ℕ → List Entry → ℕ → ℕ → Option Move
resolved game me h q t = slice_get (known game me h q).moves t

-- how many turns of the player are resolved
abbrev pub resolved_count : Game → ℕ → List Entry → ℕ → ℕ
resolved_count game me h q = length (known game me h q).moves

-- the least place of the player that is not there
abbrev pub next_place : Game → ℕ → List Entry → ℕ → ℕ
next_place game me h q = places_in (known game me h q)

-- how many of the player's commitments are held
abbrev pub held_count : Game → ℕ → List Entry → ℕ → ℕ
held_count game me h q = length (known game me h q).digests
