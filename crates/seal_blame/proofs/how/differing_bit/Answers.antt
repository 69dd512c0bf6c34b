use Rattle.std.proofs.Common.{◌∙◌, ap, arith, sym}
use Rattle.std.specs.Prelude.{Option}
use Rattle.std.proofs.lemmas.Option.{slice_get-get_or, slice_get_past}
use Rattle.definitions.specs.declared.frames.TurnFrame.{TurnFrame}
use Rattle.seal_blame.specs.Blames.{differing_bit}
use Rattle.seal_blame.proofs.how.differing_bit.Goals as goal

pub returns-then-place-made : goal.returns-then-place-made
unfolding differing_bit
returns-then-place-made c =
    sym (ap (λ (o : Option TurnFrame). differing_bit c.args.session.now o c.args.message.now) (slice_get_past c.args.made.now c.args.place (omega arith)))

pub returns : goal.returns
returns c =
    c.bit_against.ensures ∙ ap (λ (o : Option TurnFrame). differing_bit c.args.session.now o c.args.message.now) (sym (slice_get-get_or c.args.made.now c.args.place _ c.if-place-made.false))
