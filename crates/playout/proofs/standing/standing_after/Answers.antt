use Rattle.playout.proofs.Legal.{read_paid}
use Rattle.playout.proofs.standing.standing_after.Goals as goal

pub next_track-requires : goal.next_track-requires
next_track-requires c = read_paid _ c.args.moves.now c.from.result c.args.player _ c.from.ensures c.requires.legal
