use Rattle.accuse_command.proofs.Fitting.{judged_parts, seals_count}
use Rattle.accuse_command.proofs.printing.evidence_text.Goals as goal

pub text_of-requires : goal.text_of-requires
text_of-requires c =
    let on = c.requires.accuses in
    let judged = c.in_ok-sealed.ensures.shows on.game on.roots on.files on.accuses in
    seals_count on.game on.roots _ _ (judged_parts on.game on.roots c.in_ok-sealed.sealed judged).1
