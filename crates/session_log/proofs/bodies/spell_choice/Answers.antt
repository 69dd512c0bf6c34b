use Rattle.std.proofs.Common.{◌∙◌, ap, length}
use Rattle.commitment.specs.Spelling.{frame_bytes}
use Rattle.session_log.specs.Spelling.{body_of}
use Rattle.session_log.proofs.Putting.{put_rest}
use Rattle.session_log.proofs.bodies.spell_choice.Goals as goal

pub returns-clause-bytes : goal.returns-clause-bytes
unfolding body_of frame_bytes
returns-clause-bytes c =
    put_rest _ _ _ c.spell_frame-count.result _ _ _ _ _ (c.spell_frame-count.ensures.bytes ∙ ap frame_bytes c.reveal_of.ensures) (c.spell_frame-count.ensures.count ∙ ap (λ f. length (frame_bytes f)) c.reveal_of.ensures)
    c.put_slice.ensures
