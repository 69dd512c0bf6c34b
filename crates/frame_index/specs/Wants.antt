-- Wants: which frames of a turn are looked for, and the least of them.
use Rattle.std.specs.Prelude.{Bool, true, false, not, ◌&&◌, ◌||◌, List, [], ◌∷◌, Option, Some, None, is_some, nat_lt, ◌==◌, if◌then◌else◌}
use Rattle.definitions.specs.declared.findings.Spot.{Spot}
use Rattle.definitions.specs.Logs.{digest_eq, frame_eq}
use Rattle.definitions.specs.Findings.{is_commit}
use Rattle.frame_index.specs.declared.seen.Seen.{Seen}
use Rattle.frame_index.specs.declared.seen.Wanted.{Wanted}
use Rattle.frame_index.specs.declared.seen.Wanted.TheVariants.{Any, Commit, Reveal, Unlike, CommitUnlike, RevealUnlike, Rival}

-- the frame is looked for
abbrev pub wants : Wanted → Seen → Bool
wants Any s = true
wants Commit s = is_commit s.frame
wants Reveal s = not (is_commit s.frame)
wants (Unlike d) s = not (digest_eq s.digest d)
wants (CommitUnlike d) s = is_commit s.frame && not (digest_eq s.digest d)
wants (RevealUnlike d) s = not (is_commit s.frame) && not (digest_eq s.digest d)
wants (Rival d f) s = not (is_commit s.frame) && (digest_eq s.digest d && not (frame_eq s.frame f))

-- the first spot is lower
abbrev pub is_before : Spot → Spot → Bool
is_before s t = nat_lt s.log t.log || ((s.log == t.log) && nat_lt s.entry t.entry)

-- the lower of the one that is there and one more, if that is looked for
abbrev pub lower : Bool → Option Seen → Seen → Option Seen
lower false best s = best
lower true None s = Some s
lower true (Some b) s = if is_before s.spot b.spot then Some s else Some b

-- the one with the least spot of these and the one that is there
abbrev pub least_from : (Seen → Bool) → Option Seen → List Seen → Option Seen
least_from p best [] = best
least_from p best (s ∷ ss) = least_from p (lower (p s) best s) ss

-- another reveal has the same digest
abbrev pub has_rival : List Seen → Seen → Bool
has_rival ss s = not (is_commit s.frame) && is_some (least_from (wants (Rival s.digest s.frame)) None ss)
