use Rattle.std.proofs.Common.{List, sym, subst}
use Rattle.definition_laws.specs.Members.{Has}
use Rattle.frame_index.specs.declared.kept.KeptFrame.{KeptFrame}
use Rattle.frame_index.specs.Keeps.{Keeps}
use Rattle.frame_index.specs.Kept.{AreOnce, seen_in}
use Rattle.frame_index.proofs.Once.{once_none}
use Rattle.frame_index.proofs.Empty.{keeps_none}
use Rattle.frame_index.proofs.frames.FrameIndex.new.Goals as goal

pub returns : goal.returns
returns c = record {
  stands = λ game logs none. record {
    stands = λ q t. subst (λ (ks : List KeptFrame). Keeps game q t logs (seen_in ks)) (sym (c.bare.ensures q t)) (keeps_none game q t logs none);
    own = λ q t k m. absurd (subst (λ (ks : List KeptFrame). Has ks k) (c.bare.ensures q t) m);
    once = λ q t. subst AreOnce (sym (c.bare.ensures q t)) once_none;
  };
}
