-- Opened: a move that the log of a run accepts opens the commitment held, and both frames were
-- taken before.
use Rattle.definitions.specs.declared.frames.TurnFrame.TheVariants as F
use Rattle.definition_laws.proofs.Behind.{resolved_received}
use Rattle.definition_laws.proofs.WellFormed.{honest_well_formed}
use Rattle.post_rules.specs.Laws.{view_at, MovesAcceptedOpen}
use Rattle.post_rules.proofs.Received.{known_brought_in}
use Rattle.post_rules.proofs.Given.{runs_are_honest}

pub moves_accepted_open : MovesAcceptedOpen
moves_accepted_open s front items q t m ahead r other e =
    let h = (view_at s front items).kept in
    let x = resolved_received s.game s.me q t h m (honest_well_formed s.game s.me h ahead (runs_are_honest s front items r)) other e in
    let k = known_brought_in s front items r in
    (x.0, x.1, x.2, k.logs q (F.Commit q t x.0) x.3, k.logs q (F.Reveal q t m x.1) x.4, x.5)
