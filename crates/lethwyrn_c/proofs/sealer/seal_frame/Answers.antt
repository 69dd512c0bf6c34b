use Rattle.std.proofs.Common.{sym, ap, ◌∙◌}
use Rattle.byte_fields.specs.Fields.{overwritten}
use Rattle.seal_keys.specs.declared.answer.SealAnswer.{SealAnswer}
use Rattle.seal_keys.specs.States.{room_after}
use Rattle.lethwyrn_c.proofs.Sealed.{done_front, foreign_front, used_front}
use Rattle.lethwyrn_c.proofs.sealer.seal_frame.Goals as goal

pub returns-in-Done-clause-out : goal.returns-in-Done-clause-out
returns-in-Done-clause-out c = c.put_slice.ensures ∙ (ap (overwritten c.args.out.now 0) c.bytes.ensures ∙
    done_front c.args.keys.now c.args.frame.now _ c.args.room.now c.seal.new.out c.args.out.now (sym c.in-Done.ensures.answer) (c.seal.ensures.seal ∙ ap (λ (a : SealAnswer). room_after c.args.keys.now c.args.frame.now a c.args.room.now) c.seal.ensures.answer) (c.seal.ensures.length ∙ c.requires.room))

pub returns-in-Used-clause-out : goal.returns-in-Used-clause-out
returns-in-Used-clause-out c = used_front c.args.keys.now c.args.frame.now _ c.args.out.now (sym c.in-Used.ensures.answer)

pub returns-in-Foreign-clause-out : goal.returns-in-Foreign-clause-out
returns-in-Foreign-clause-out c = foreign_front c.args.keys.now c.args.frame.now _ c.args.out.now (sym c.in-Foreign.ensures.answer)
