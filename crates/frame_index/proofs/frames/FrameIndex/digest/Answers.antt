use Rattle.std.proofs.Common.{◌∙◌, ap, sym}
use Rattle.frame_index.specs.declared.kept.KeptFrame.{KeptFrame}
use Rattle.frame_index.proofs.OfLog.{kept_digest}
use Rattle.frame_index.proofs.frames.FrameIndex.digest.Goals as goal

pub returns-in-Some : goal.returns-in-Some
returns-in-Some c logs index =
    ap (λ (k : KeptFrame). k.digest) (sym c.index-kept-at.is)
    ∙ kept_digest c.args.session.now logs c.args.self.now c.args.frame.now c.kept_with-kept.result.now c.in-Some.at c.index-kept-at.result index c.kept_with-kept.ensures c.in-Some.ensures.some c.index-kept-at.is
