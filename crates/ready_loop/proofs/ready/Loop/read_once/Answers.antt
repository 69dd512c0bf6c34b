use Rattle.std.proofs.Common.{refl, sym, subst, arith}
use Rattle.ready_loop.specs.States.{LoopState}
use Rattle.socket_table.specs.Finding.{IsAt}
use Rattle.ready_loop.specs.Handling.{WantsAt}
use Rattle.ready_loop.proofs.Calls.{read_some, read_open, are_players, read_fits, reads_one}
use Rattle.ready_loop.proofs.ready.Loop.read_once.Goals as goal

pub read-read-requires-clause-some : goal.read-read-requires-clause-some
read-read-requires-clause-some g c =
    read_some c.self.inside.table c.args.place c.args.socket c.room.result c.min-most.result c.self.inside.buffer
    (subst (λ (l : LoopState). IsAt l.table c.args.place c.args.socket) (sym c.self.view_is) c.requires.at)
    (subst (λ (l : LoopState). WantsAt l.table c.args.place) (sym c.self.view_is) c.requires.wants)
    c.room.ensures c.min-most.ensures c.self.told

pub read-read-requires-clause-is_open : goal.read-read-requires-clause-is_open
read-read-requires-clause-is_open g c = read_open _ c.args.self.now c.args.place c.args.socket c.requires.at c.requires.ready c.requires.wants

pub put_read-requires-clause-players : goal.put_read-requires-clause-players
put_read-requires-clause-players g c = are_players c.self.inside.peer.game c.self.inside.peer.me c.self.inside.table.seats c.self.invariant.seats

pub invariant_of-self : goal.invariant_of-self
invariant_of-self g c =
    read_fits _ _ c.args.self.now c.self.inside.writer c.args.place c.args.socket c.min-most.result c.read-read.result c.read-read.new.buf _ c.self.inside.buffer c.put_read.new.table
    c.self.view_is c.self.invariant c.requires.ready c.requires.at c.requires.wants c.read-read.auto.buf (let few = c.min-most.ensures in let all = c.self.told in omega (arith, few, all)) c.put_read.ensures

pub returns : goal.returns
returns g c =
    reads_one _ _ _ c.args.self.now _ c.args.place c.args.socket c.room.result c.min-most.result c.read-read.result c.read-read.new.buf _ c.self.inside.buffer c.put_read.new.table
    c.self.view_is c.requires.ready c.requires.at c.room.ensures c.min-most.ensures c.read-read.auto.buf c.self.told c.read-read.ensures.after c.read-read.ensures.within c.put_read.ensures refl
