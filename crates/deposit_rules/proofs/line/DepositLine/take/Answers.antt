use Rattle.std.proofs.Common.{◌∙◌, ap, arith, length}
use Rattle.deposit_rules.specs.declared.line.DepositLine.{DepositLine}
use Rattle.deposit_rules.proofs.Given.{fed_taken}
use Rattle.deposit_rules.proofs.Heard.{room_few}
use Rattle.deposit_rules.proofs.line.DepositLine.take.Goals as goal

pub overflow_add-self : goal.overflow_add-self
overflow_add-self c = let few = room_few c.args.self.now.taken (length c.args.bytes.now) c.requires.room c.requires.some in omega (arith, few)

pub feed-requires : goal.feed-requires
feed-requires c = let few = room_few c.args.self.now.taken (length c.args.bytes.now) c.requires.room c.requires.some in let place = c.requires.place in omega (arith, few, place)

pub returns-clause-place : goal.returns-clause-place
returns-clause-place c =
    let place = c.feed.ensures.place in
    let same = ap (λ (w : DepositLine). w.taken) c.feed.ensures.line ∙ fed_taken c.args.bytes.now _ in
    let before = c.requires.place in
    omega (arith, place, same, before)
