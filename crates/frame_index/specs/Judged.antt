-- Judged: what is kept of a turn, by the digest held and the track before it.
use Rattle.std.specs.Prelude.{ℕ, Bool, false, ◌&&◌, ◌==◌, Option, Some, None, Result, is_ok, is_err, if◌then◌else◌}
use Rattle.std.specs.Option.{option_map_or}
use Rattle.definitions.specs.declared.world.Track.{Track}
use Rattle.definitions.specs.declared.world.MoveFault.{MoveFault}
use Rattle.definitions.specs.declared.openings.Digest.{Digest}
use Rattle.definitions.specs.declared.frames.TurnFrame.{TurnFrame}
use Rattle.definitions.specs.declared.frames.TurnFrame.TheVariants.{Commit, Reveal}
use Rattle.definitions.specs.World.{Game}
use Rattle.definitions.specs.Logs.{digest_eq}
use Rattle.move_rules.specs.Verdicts.{verdict}
use Rattle.frame_index.specs.declared.seen.Seen.{Seen}

-- what the frame's move leads to, where it is a reveal and the test says that it opens the digest
abbrev pub judged_by : Game → ℕ → Track → Bool → TurnFrame → Option (Result Track MoveFault)
judged_by game q track opens (Commit p t d) = None
judged_by game q track opens (Reveal p t m n) = if opens then Some (verdict game q track m) else None

-- the same of a frame that is kept
abbrev pub judged : Game → ℕ → Track → Digest → Seen → Option (Result Track MoveFault)
judged game q track d k = judged_by game q track (digest_eq k.digest d) k.frame

-- it stands in the log, opens the digest, and is legal
abbrev pub is_good : Game → ℕ → Track → Digest → ℕ → Seen → Bool
is_good game q track d log k = (k.spot.log == log) && option_map_or is_ok (judged game q track d k) false

-- it stands in the log, opens the digest, and isn't legal
abbrev pub is_wrong : Game → ℕ → Track → Digest → ℕ → Seen → Bool
is_wrong game q track d log k = (k.spot.log == log) && option_map_or is_err (judged game q track d k) false
