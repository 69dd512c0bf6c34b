use Rattle.schedule.proofs.Sitting.{peer_read}
use Rattle.schedule.proofs.table.Table.peer.Goals as goal

pub returns-in-Some : goal.returns-in-Some
returns-in-Some c =
    peer_read c.self.inside.session c.self.inside.seats.items c.self.inside.tallies.items _ c.args.player c.from.result c.in-Some.peer c.index.result.now c.self.invariant.seated c.self.view_is c.from.ensures c.index.ensures c.requires c.in-Some.is
