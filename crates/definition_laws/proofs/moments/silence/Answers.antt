use Rattle.definition_laws.proofs.ForPeers.{clean_without_got, held_without_got, next_without_got, resolved_without_got}
use Rattle.definition_laws.proofs.moments.silence.Goals as goal

pub returns-clause-clean : goal.returns-clause-clean
returns-clause-clean c = clean_without_got

pub returns-clause-nothing : goal.returns-clause-nothing
returns-clause-nothing c game me q t h other none =
    (held_without_got game me q t h other none, resolved_without_got game me q t h other none, (next_without_got game me q h other none).0)
