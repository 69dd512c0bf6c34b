use Rattle.std.proofs.Common.{sym, true, false}
use Rattle.socket_table.proofs.Heard.{naming_of, no_naming, naming_at, naming_unspent, naming_player, hello_heard}
use Rattle.socket_table.proofs.table.Table.hear_hello.Goals as goal

pub next-requires : goal.next-requires
next-requires g c = naming_player (g.H.Hears.players c.args.hears.now) c.args.self.now _ c.args.player c.in-Some.seat c.requires.players (naming_of c.args.self.now _ c.args.player c.in-Some.seat c.naming_seat.result (c.naming_seat.ensures c.requires.at.0 (g.H.Hears.hearer c.args.hears.now) c.requires.at.1 (sym c.id.ensures)) c.in-Some.is)

pub name-requires-clause-seat : goal.name-requires-clause-seat
name-requires-clause-seat g c = naming_at c.args.self.now _ c.args.player c.in-Some.seat (naming_of c.args.self.now _ c.args.player c.in-Some.seat c.naming_seat.result (c.naming_seat.ensures c.requires.at.0 (g.H.Hears.hearer c.args.hears.now) c.requires.at.1 (sym c.id.ensures)) c.in-Some.is)

pub name-requires-clause-unspent : goal.name-requires-clause-unspent
name-requires-clause-unspent g c x i = naming_unspent c.args.self.now _ c.args.player c.in-Some.seat x (naming_of c.args.self.now _ c.args.player c.in-Some.seat c.naming_seat.result (c.naming_seat.ensures c.requires.at.0 (g.H.Hears.hearer c.args.hears.now) c.requires.at.1 (sym c.id.ensures)) c.in-Some.is) i

pub returns-in-None : goal.returns-in-None
returns-in-None g c l i =
    hello_heard (g.H.Hears.hearer c.args.hears.now) c.args.self.now c.doom.new.self c.args.socket l c.args.id.now c.args.player c.args.pass.now c.args.from false
    (no_naming c.args.self.now _ c.args.player c.naming_seat.result (c.naming_seat.ensures l (g.H.Hears.hearer c.args.hears.now) i (sym c.id.ensures)) c.in-None.is)
    c.doom.ensures

pub returns-in-Some : goal.returns-in-Some
returns-in-Some g c l i =
    hello_heard (g.H.Hears.hearer c.args.hears.now) c.args.self.now c.name.new.self c.args.socket l c.args.id.now c.args.player c.args.pass.now c.args.from true
    (naming_of c.args.self.now _ c.args.player c.in-Some.seat c.naming_seat.result (c.naming_seat.ensures l (g.H.Hears.hearer c.args.hears.now) i (sym c.id.ensures)) c.in-Some.is).0
    (c.name.ensures l (g.H.Hears.hearer c.args.hears.now) i (sym c.next.ensures))
