use Rattle.std.proofs.Common.{◌≡◌, true, [], ◌∷◌, refl, ap, subst, ◌∙◌}
use Rattle.definitions.specs.declared.world.Cell.{Cell}
use Rattle.definitions.specs.World.{Ground, is_open, seat_of}
use Rattle.cell_set.specs.Regions.{Region}
use Rattle.dilation.proofs.Followed.{kept_begun}
use Rattle.dilation.proofs.growth.keep.Goals as goal

pub returns-clause-kept : goal.returns-clause-kept
returns-clause-kept c =
    kept_begun c.args.session.now c.args.player (seat_of c.args.session.now c.args.player).start _ refl
    (record {
      width = ap (λ (r : Region). r.width) c.in_ok-reached.ensures ∙ c.width.ensures.value ∙ ap (λ (g : Ground). g.width) c.grid-grid.ensures.value;
      height = ap (λ (r : Region). r.height) c.in_ok-reached.ensures ∙ c.height.ensures.value ∙ ap (λ (g : Ground). g.height) c.grid-grid.ensures.value;
    })
    (ap (λ (r : Region). r.cells) c.in_ok-reached.ensures ∙ ap (λ (s : Cell). s ∷ []) c.start.ensures.value) refl
    (subst (λ (s : Cell). is_open c.args.session.now.grid s ≡ true) c.start.ensures.value c.start.ensures.open_cell)
