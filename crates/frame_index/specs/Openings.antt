-- Openings: the move of a reveal that opens a digest and is legal.
use Rattle.std.specs.Prelude.{ℕ, ◌&&◌, ◌==◌, Option, Some, None, if◌then◌else◌, option_and_then}
use Rattle.definitions.specs.declared.world.Move.{Move}
use Rattle.definitions.specs.declared.world.Track.{Track}
use Rattle.definitions.specs.declared.openings.Digest.{Digest}
use Rattle.definitions.specs.declared.frames.TurnFrame.{TurnFrame}
use Rattle.definitions.specs.declared.frames.TurnFrame.TheVariants.{Commit, Reveal}
use Rattle.definitions.specs.declared.logs.Entry.{Entry}
use Rattle.definitions.specs.declared.logs.Entry.TheVariants.{Chose, Made, Got}
use Rattle.definitions.specs.World.{Game}
use Rattle.definitions.specs.Moves.{is_legal}
use Rattle.definitions.specs.Logs.{digest_eq}
use Rattle.definitions.specs.Held.{commit_of, digest_of}

-- the move of a reveal of the turn that opens the digest and is legal from this track
abbrev pub opening_at : Game → ℕ → Track → Digest → ℕ → TurnFrame → Option Move
opening_at game q track d t (Commit p u e) = None
opening_at game q track d t (Reveal p u m n) =
    if (u == t) && digest_eq (digest_of game (Reveal p u m n)) d && is_legal game q track m then Some m else None
