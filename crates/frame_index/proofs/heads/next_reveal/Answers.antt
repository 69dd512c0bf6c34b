use Rattle.std.proofs.Common.{◌∙◌, arith}
use Rattle.frame_index.proofs.StreamsShown.{still_due, still_none, there_due}
use Rattle.frame_index.proofs.Headed.{held_before}
use Rattle.frame_index.proofs.heads.next_reveal.Goals as goal

pub returns-in_default-clause-next : goal.returns-in_default-clause-next
returns-in_default-clause-next c logs h keeps there read turn next =
    still_none _ _ _ _ read next (c.in_default.ensures _ logs _ h keeps there ∙ held_before _ _ _ _ c.facts.ensures read turn next)

pub returns-in_default-first_opening-clause-next : goal.returns-in_default-first_opening-clause-next
returns-in_default-first_opening-clause-next c logs h keeps there read turn next =
    still_due _ _ _ _ _ c.facts.ensures c.requires.player read next (c.in-Some.ensures _ logs _ h keeps there ∙ held_before _ _ _ _ c.facts.ensures read turn next)
    (c.in_default-first_opening.ensures.first _ logs h keeps there)

pub returns-clause-next : goal.returns-clause-next
returns-clause-next c logs h keeps there read turn next = (
  there_due _ _ _ _ _ _ c.facts.ensures c.requires.player read next (c.in-Some.ensures _ logs _ h keeps there ∙ held_before _ _ _ _ c.facts.ensures read turn next)
      (c.in-Some-first_opening.ensures.first _ logs h keeps there),
  omega arith,
)
