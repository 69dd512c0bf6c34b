use Rattle.std.proofs.Common.{◌∙◌, sym}
use Rattle.log_books.proofs.Kept.{on_ok}
use Rattle.live_logger.proofs.Polled.{handled, licensed, round_fault, round_on}
use Rattle.live_logger.proofs.watch.Watch.round.Goals as goal

pub poll-requires-clause-licensed : goal.poll-requires-clause-licensed
poll-requires-clause-licensed g c =
    let all = on_ok c.read_all.result (sym c.is_err.ensures.value ∙ c.if-is_err.false) c.read_all.ensures.all in
    let h = handled _ _ _ _ c.args.self.now c.read_all.new.self c.shut_all.new.self c.write_all.new.self all c.shut_all.ensures c.write_all.ensures in
    licensed c.write_all.new.self.view h.goes.watching.running h.quiet

pub returns-then-is_agreed : goal.returns-then-is_agreed
returns-then-is_agreed g c =
    let all = on_ok c.read_all.result (sym c.is_err.ensures.value ∙ c.if-is_err.false) c.read_all.ensures.all in
    let h = handled _ _ _ _ c.args.self.now c.read_all.new.self c.shut_all.new.self c.write_all.new.self all c.shut_all.ensures c.write_all.ensures in
    (h.goes, sym c.is_agreed.ensures ∙ c.if-is_agreed.true, licensed c.write_all.new.self.view h.goes.watching.running h.quiet)

pub returns-then-poll : goal.returns-then-poll
returns-then-poll g c =
    let all = on_ok c.read_all.result (sym c.is_err.ensures.value ∙ c.if-is_err.false) c.read_all.ensures.all in
    let h = handled _ _ _ _ c.args.self.now c.read_all.new.self c.shut_all.new.self c.write_all.new.self all c.shut_all.ensures c.write_all.ensures in
    round_on _ _ _ c.args.self.now c.write_all.new.self c.poll.new.self h (sym c.is_agreed.ensures ∙ c.if-is_agreed.false) c.if-poll.ensures

pub returns-else-poll : goal.returns-else-poll
returns-else-poll g c =
    let all = on_ok c.read_all.result (sym c.is_err.ensures.value ∙ c.if-is_err.false) c.read_all.ensures.all in
    let h = handled _ _ _ _ c.args.self.now c.read_all.new.self c.shut_all.new.self c.write_all.new.self all c.shut_all.ensures c.write_all.ensures in
    round_fault _ _ _ c.args.self.now c.write_all.new.self c.poll.new.self h (sym c.is_agreed.ensures ∙ c.if-is_agreed.false) c.if-poll.ensures
