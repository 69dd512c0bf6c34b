use Rattle.live_logger.proofs.Calls.{on_err, read_history, read_one, read_open, read_some}
use Rattle.live_logger.proofs.watch.Watch.read.Goals as goal

pub read-read-requires-clause-some : goal.read-read-requires-clause-some
read-read-requires-clause-some g c =
    read_some c.self.inside.board c.args.self.now c.args.place c.args.socket c.room.result c.min-most.result c.self.inside.buffer c.self.view_is c.requires.at c.requires.wants c.room.ensures c.min-most.ensures c.self.told

pub read-read-requires-clause-is_open : goal.read-read-requires-clause-is_open
read-read-requires-clause-is_open g c = read_open _ c.args.self.now c.args.place c.args.socket c.requires.at c.requires.ready c.requires.wants

pub returns-clause-all : goal.returns-clause-all
returns-clause-all g c =
    read_one _ _ c.self.inside.board c.args.self.now c.put_read.new.board c.args.place c.args.socket c.room.result c.min-most.result c.read-read.result c.read-read.new.buf _ c.self.inside.buffer c.put_read.result c.self.view_is c.requires.ready c.requires.at c.requires.wants
    c.room.ensures c.min-most.ensures c.read-read.auto.buf c.self.told c.read-read.ensures.after c.read-read.ensures.within c.put_read.ensures.all

pub returns-clause-memory : goal.returns-clause-memory
returns-clause-memory g c =
    on_err c.put_read.result (read_history _ _ c.self.inside.board c.args.self.now c.args.place c.args.socket c.room.result c.min-most.result c.read-read.result c.read-read.new.buf c.self.inside.buffer c.self.view_is c.requires.ready c.requires.at c.requires.wants
    c.room.ensures c.min-most.ensures c.read-read.auto.buf c.self.told c.read-read.ensures.after c.read-read.ensures.within)
