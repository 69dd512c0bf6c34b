use Rattle.std.proofs.Common.{refl, ap, ◌∙◌}
use Rattle.cell_set.specs.Regions.{Region}
use Rattle.dilation.proofs.Followed.{kept_begun}
use Rattle.dilation.proofs.growth.begin.Goals as goal

pub returns-clause-kept : goal.returns-clause-kept
returns-clause-kept c =
    kept_begun c.args._session.now c.args._player c.args.cell _ refl
    (record {
      width = ap (λ (r : Region). r.width) c.set_one.ensures ∙ c.requires.size.width;
      height = ap (λ (r : Region). r.height) c.set_one.ensures ∙ c.requires.size.height;
    })
    (ap (λ (r : Region). r.cells) c.set_one.ensures) refl c.requires.«open»
