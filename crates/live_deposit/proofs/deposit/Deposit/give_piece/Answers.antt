use Rattle.std.proofs.Common.{◌∙◌, sym, arith, take}
use Rattle.live_deposit.proofs.Served.{ended_in, failed_in, idle_in, on_in, piece_longest}
use Rattle.live_deposit.proofs.deposit.Deposit.give_piece.Goals as goal

pub returns-then-at-ge-LONGEST_LOG : goal.returns-then-at-ge-LONGEST_LOG
returns-then-at-ge-LONGEST_LOG g c = piece_longest _ _ _ c.args.self.now c.args.at c.requires.place c.requires.stands c.requires.greeted c.if-at-ge-LONGEST_LOG.true

pub returns-in-Ended : goal.returns-in-Ended
returns-in-Ended g c = ended_in _ _ _ _ _ c.args.self.now c.args.at c.self.view_is c.requires.place c.requires.stands c.requires.greeted c.in-Ended.ensures.call

pub returns-in-Failed : goal.returns-in-Failed
returns-in-Failed g c = failed_in _ _ _ _ _ c.args.self.now c.args.at c.self.view_is c.requires.place c.requires.stands c.requires.greeted c.in-Failed.ensures.call

pub returns-then-not-takes_bytes : goal.returns-then-not-takes_bytes
returns-then-not-takes_bytes g c =
    let w = c.in-Took.ensures.within in
    idle_in _ _ _ _ _ c.args.self.now c.args.at c.self.view_is c.requires.place c.requires.stands c.requires.greeted (take c.in-Took.count c.fetch.new.buffer) c.in-Took.ensures.call (let a = w.0 in let b = w.2 in omega (arith, a, b)) c.in-Took.ensures.few
    (sym c.takes_bytes.ensures ∙ c.if-not-takes_bytes.true)

pub returns-else-not-takes_bytes : goal.returns-else-not-takes_bytes
returns-else-not-takes_bytes g c =
    let w = c.in-Took.ensures.within in
    on_in _ _ _ _ _ c.args.self.now c.args.at c.self.view_is c.requires.place c.requires.stands c.requires.greeted _ (take c.in-Took.count c.fetch.new.buffer) c.write-write.result c.put_piece.new.line c.in-Took.ensures.call (let a = w.0 in let b = w.2 in omega (arith, a, b)) c.in-Took.ensures.few
    (sym c.takes_bytes.ensures ∙ c.if-not-takes_bytes.false) c.write-write.ensures.within c.write-write.ensures.after c.put_piece.ensures
