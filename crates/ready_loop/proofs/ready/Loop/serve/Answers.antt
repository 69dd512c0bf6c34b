use Rattle.ready_loop.proofs.Passing.{serve_next, serve_done, serve_serving, serve_idle, serve_dial, next_seat}
use Rattle.ready_loop.proofs.ready.Loop.serve.Goals as goal

pub write_all-requires-clause-serving : goal.write_all-requires-clause-serving
write_all-requires-clause-serving g c = serve_next _ _ c.args.self.now c.shut_all.new.self c.requires.serving c.shut_all.ensures

pub returns-then-not-is_waited_for : goal.returns-then-not-is_waited_for
returns-then-not-is_waited_for g c =
    serve_done _ _ _ c.args.self.now c.shut_all.new.self c.write_all.new.self c.is_waited_for.result c.requires.serving c.requires.out c.shut_all.ensures c.write_all.ensures c.facts.ensures c.is_waited_for.ensures c.if-not-is_waited_for.true

pub dial-requires-clause-serving : goal.dial-requires-clause-serving
dial-requires-clause-serving g c = serve_serving _ _ _ c.args.self.now c.shut_all.new.self c.write_all.new.self c.requires.serving c.shut_all.ensures c.write_all.ensures

pub dial-requires-clause-next : goal.dial-requires-clause-next
dial-requires-clause-next g c = next_seat c.write_all.new.self c.next_dial.result c.in-Some.seat c.next_dial.ensures c.in-Some.is

pub returns-in-None : goal.returns-in-None
returns-in-None g c =
    serve_idle _ _ _ c.args.self.now c.shut_all.new.self c.write_all.new.self c.is_waited_for.result c.next_dial.result c.requires.serving c.requires.out c.shut_all.ensures c.write_all.ensures c.is_waited_for.ensures c.if-not-is_waited_for.false c.next_dial.ensures c.in-None.is

pub returns-in-Some : goal.returns-in-Some
returns-in-Some g c = serve_dial _ _ _ _ c.args.self.now c.shut_all.new.self c.write_all.new.self c.dial.new.self c.shut_all.ensures c.write_all.ensures c.dial.ensures
