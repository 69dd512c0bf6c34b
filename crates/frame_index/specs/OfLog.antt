-- OfLog: what one log has of the frames that are kept of a turn.
use Rattle.std.specs.Prelude.{ℕ, Bool, false, ◌==◌, ◌&&◌, Option, None, Some, if◌then◌else◌, is_ok}
use Rattle.std.specs.Option.{option_map_or}
use Rattle.definitions.specs.declared.world.Move.{Move}
use Rattle.definitions.specs.declared.world.Track.{Track}
use Rattle.definitions.specs.declared.openings.Digest.{Digest}
use Rattle.definitions.specs.declared.frames.TurnFrame.{TurnFrame}
use Rattle.definitions.specs.declared.frames.TurnFrame.TheVariants.{Commit, Reveal}
use Rattle.definitions.specs.World.{Game}
use Rattle.definitions.specs.Moves.{is_legal, next_track}
use Rattle.definitions.specs.Logs.{digest_eq}
use Rattle.frame_index.specs.declared.seen.Seen.{Seen}
use Rattle.frame_index.specs.declared.kept.KeptFrame.{KeptFrame}
use Rattle.frame_index.specs.Judged.{judged_by}

-- it stands in the log
abbrev pub stands_in : ℕ → Seen → Bool
stands_in log k = k.spot.log == log

-- the kept frame is a reveal that opens the digest by a move that is legal from the track
abbrev pub leads : Game → ℕ → Track → Digest → KeptFrame → Bool
leads game q track d k = option_map_or is_ok (judged_by game q track (digest_eq k.digest d) k.frame) false

-- the move of a reveal that is legal from the track, where the test says that it opens the digest
abbrev pub move_opened : Game → ℕ → Track → Bool → TurnFrame → Option Move
move_opened game q track opens (Commit p t d) = None
move_opened game q track opens (Reveal p t m n) = if opens && is_legal game q track m then Some m else None

-- the move, and the track after it
abbrev pub with_track : Game → Track → Move → Move × Track
with_track game track m = (m, next_track game track m)
