use Rattle.definition_laws.proofs.ForPeers.{own_counts_plain, own_digests, own_moves, own_next}
use Rattle.definition_laws.proofs.streams.own_stream.Goals as goal

pub returns-clause-there : goal.returns-clause-there
returns-clause-there c = own_next

pub returns-clause-chosen : goal.returns-clause-chosen
returns-clause-chosen c game me h d i = (own_moves game me h d i, own_digests game me h d i)

pub returns-clause-alternate : goal.returns-clause-alternate
returns-clause-alternate c = own_counts_plain
