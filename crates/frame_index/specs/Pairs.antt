-- Pairs: the least pair of spots of each kind, by the least of frames that are looked for.
use Rattle.std.specs.Prelude.{List, Option, Some, None, if◌then◌else◌}
use Rattle.definitions.specs.declared.findings.Spot.{Spot}
use Rattle.definitions.specs.Findings.{is_commit}
use Rattle.frame_index.specs.declared.seen.Seen.{Seen}
use Rattle.frame_index.specs.declared.seen.Wanted.{Wanted}
use Rattle.frame_index.specs.declared.seen.Wanted.TheVariants.{Any, Commit, Reveal, Unlike, CommitUnlike, RevealUnlike, Rival}
use Rattle.frame_index.specs.Wants.{wants, least_from, is_before, has_rival}

abbrev pub least : Wanted → List Seen → Option Seen
least w ss = least_from (wants w) None ss

abbrev pub pair_with : Seen → Option Seen → Option (Spot × Spot)
pair_with a None = None
pair_with a (Some b) = Some (a.spot, b.spot)

abbrev pub in_order : Seen → Seen → Spot × Spot
in_order a b = if is_before a.spot b.spot then (a.spot, b.spot) else (b.spot, a.spot)

abbrev pub two_commits_by : List Seen → Option Seen → Option (Spot × Spot)
two_commits_by ss None = None
two_commits_by ss (Some a) = pair_with a (least (CommitUnlike a.digest) ss)

unfoldable pub two_commits : List Seen → Option (Spot × Spot)
two_commits ss = two_commits_by ss (least Commit ss)

abbrev pub partner_of : Seen → Wanted
partner_of a = if is_commit a.frame then RevealUnlike a.digest else Unlike a.digest

abbrev pub crossed : Option Seen → Option Seen → Option (Spot × Spot)
crossed None c = None
crossed (Some r) None = None
crossed (Some r) (Some c) = Some (in_order r c)

abbrev pub bad_opening_or : List Seen → Seen → Option Seen → Option (Spot × Spot)
bad_opening_or ss a (Some b) = Some (a.spot, b.spot)
bad_opening_or ss a None = crossed (least Reveal ss) (least (CommitUnlike a.digest) ss)

abbrev pub bad_opening_by : List Seen → Option Seen → Option (Spot × Spot)
bad_opening_by ss None = None
bad_opening_by ss (Some a) = bad_opening_or ss a (least (partner_of a) ss)

unfoldable pub bad_opening : List Seen → Option (Spot × Spot)
bad_opening ss = bad_opening_by ss (least Any ss)

abbrev pub collision_by : List Seen → Option Seen → Option (Spot × Spot)
collision_by ss None = None
collision_by ss (Some a) = pair_with a (least (Rival a.digest a.frame) ss)

unfoldable pub collision : List Seen → Option (Spot × Spot)
collision ss = collision_by ss (least_from (has_rival ss) None ss)
