use Rattle.lethwyrn_c.proofs.Marks.{not_stored, one_is_stored, one_stored, passed_on}
use Rattle.lethwyrn_c.specs.Marks.{AreMarks}
use Rattle.lethwyrn_c.proofs.seat.Seat.store_one.Goals as goal

pub invariant_of-self : goal.invariant_of-self
invariant_of-self c =
    passed_on c.self.inside.peer c.entries.result.now c.self.inside.given c.self.inside.ahead c.pass.new.self c.self.inside.stored c.entries.ensures c.pass.ensures.stands c.pass.ensures.passed c.self.invariant

pub returns-then-self-from-clause-none : goal.returns-then-self-from-clause-none
returns-then-self-from-clause-none c =
    let marks : AreMarks c.self.inside.peer c.self.inside.given c.pass.new.self c.self.inside.stored =
    passed_on c.self.inside.peer c.entries.result.now c.self.inside.given c.self.inside.ahead c.pass.new.self c.self.inside.stored c.entries.ensures c.pass.ensures.stands c.pass.ensures.passed c.self.invariant in
    λ f. (
      c.self.view_is,
      not_stored c.args.self.now c.self.inside.peer c.self.inside.links c.self.inside.given c.pass.new.self c.self.inside.stored c.self.inside.sent c.args.bytes c.from.result c.self.view_is
          c.pass.ensures.passed marks c.from.ensures c.if-self-from.true,
    )

pub invariant_of-self-2 : goal.invariant_of-self-2
invariant_of-self-2 c =
    let marks : AreMarks c.self.inside.peer c.self.inside.given c.pass.new.self c.self.inside.stored =
    passed_on c.self.inside.peer c.entries.result.now c.self.inside.given c.self.inside.ahead c.pass.new.self c.self.inside.stored c.entries.ensures c.pass.ensures.stands c.pass.ensures.passed c.self.invariant in
    one_stored c.self.inside.peer c.self.inside.given c.pass.new.self c.self.inside.stored c.pass.ensures.passed c.if-self.false marks

pub returns-clause-one : goal.returns-clause-one
returns-clause-one c =
    let marks : AreMarks c.self.inside.peer c.self.inside.given c.pass.new.self c.self.inside.stored =
    passed_on c.self.inside.peer c.entries.result.now c.self.inside.given c.self.inside.ahead c.pass.new.self c.self.inside.stored c.entries.ensures c.pass.ensures.stands c.pass.ensures.passed c.self.invariant in
    λ t. one_is_stored c.args.self.now c.self.inside.peer c.self.inside.links c.self.inside.given c.pass.new.self c.self.inside.stored c.self.inside.sent c.args.bytes c.from.result c.self.view_is
    c.pass.ensures.passed marks c.if-self.false c.from.ensures c.if-self-from.false
