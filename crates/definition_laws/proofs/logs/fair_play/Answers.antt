use Rattle.definition_laws.proofs.Behind.{resolved_received, reveal_behind_received}
use Rattle.definition_laws.proofs.Headline.{resolved_opens}
use Rattle.definition_laws.proofs.logs.fair_play.Goals as goal

pub returns-clause-behind : goal.returns-clause-behind
returns-clause-behind c = reveal_behind_received

pub returns-clause-opens : goal.returns-clause-opens
returns-clause-opens c game me q t h m e =
    let o = resolved_opens game me q t h m e in
    (o.0, o.3.player, o.3.nonce, o.3.front, o.3.rest, o.1, o.3.stands, o.3.opens)

pub returns-clause-received : goal.returns-clause-received
returns-clause-received c = resolved_received
