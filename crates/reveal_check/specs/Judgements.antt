-- Judgements: what an opening is worth, by the digest committed to and by the rules.
use Rattle.std.specs.Prelude.{Result, Ok, Err, if◌then◌else◌}
use Rattle.definitions.specs.declared.world.Track.{Track}
use Rattle.definitions.specs.declared.world.MoveFault.{MoveFault}
use Rattle.definitions.specs.declared.openings.Digest.{Digest}
use Rattle.definitions.specs.declared.openings.Opening.{Opening}
use Rattle.definitions.specs.World.{Game}
use Rattle.definitions.specs.Openings.{commitment}
use Rattle.definitions.specs.Logs.{digest_eq}
use Rattle.move_rules.specs.Verdicts.{verdict}
use Rattle.reveal_check.specs.declared.judging.Verdict.{Verdict}
use Rattle.reveal_check.specs.declared.judging.Verdict.TheVariants.{Good, BadOpening, Illegal}

-- what the rules say of the move of an opening that opens its commitment
abbrev pub by_rules : Result Track MoveFault → Verdict
by_rules (Ok track) = Good track
by_rules (Err fault) = Illegal fault

-- the digest is compared first, and the move is judged only where it fits
abbrev pub judgement : Game → Track → Digest → Opening → Verdict
judgement game track digest o =
    if digest_eq (commitment game.id o) digest then by_rules (verdict game o.player track o.mv) else BadOpening
