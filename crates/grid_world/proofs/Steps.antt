-- What the line of a wall gave that was read.
use Rattle.std.proofs.Common.{◌≡◌, ℕ, true, false, List, Option, Some, None, Ok, refl, subst, ◌∙◌}
use Rattle.std.specs.Prelude.{codes, not, ◌&&◌}
use Rattle.std.proofs.lemmas.Bool.{and_parts, not-true}
use Rattle.definitions.specs.declared.world.Cell.{Cell}
use Rattle.definitions.specs.declared.sessions.SessionRule.TheVariants.{S8, S9}
use Rattle.definitions.specs.World.{Ground, has_cell, is_inside}
use Rattle.grid_world.specs.declared.fault.SessionFault.TheVariants.{At}
use Rattle.text_lines.specs.Lines.{two_of}
use Rattle.text_lines.specs.Reading.{keeps}
use Rattle.text_lines.proofs.Steps.{bind_ok, keeps_ok}
use Rattle.grid_world.specs.Reading.{cell_at, is_after, wall_said, wall_at}

-- what holds of a wall that was read
pub record IsWallRead (grid : Ground) (starts : List Cell) (before : Option Cell) (said : Option (ℕ × ℕ)) (c : Cell) : Type 0 where
  pub said_is : said ≡ Some (c.x, c.y)
  pub inside : is_inside grid c ≡ true
  pub after : is_after before c ≡ true
  pub apart : has_cell starts c ≡ false

wall_said_ok : (grid : Ground) (starts : List Cell) (before : Option Cell) (n : ℕ) (said : Option (ℕ × ℕ)) (c : Cell) → wall_said grid starts before n said ≡ Ok c → IsWallRead grid starts before said c
wall_said_ok grid starts before n None c e = absurd cc
wall_said_ok grid starts before n (Some s) c e =
    let a = bind_ok (keeps (At n S8) (is_inside grid (cell_at s.0 s.1)) (cell_at s.0 s.1)) (λ wall. keeps (At n S9) (is_after before wall && not (has_cell starts wall)) wall) c e in
    let first = keeps_ok (At n S8) (is_inside grid (cell_at s.0 s.1)) (cell_at s.0 s.1) a.0 a.1 in
    let second = keeps_ok (At n S9) (is_after before a.0 && not (has_cell starts a.0)) a.0 c a.2 in
    let both = and_parts (is_after before a.0) (not (has_cell starts a.0)) second.0 in
    let is : cell_at s.0 s.1 ≡ c = first.1 ∙ second.1 in
    let said_is : (d : Cell) → cell_at s.0 s.1 ≡ d → Some s ≡ Some (d.x, d.y) = λ d p. subst (λ (w : Cell). Some s ≡ Some (w.x, w.y)) p refl in
    record {
      said_is = said_is c is;
      inside = subst (λ (w : Cell). is_inside grid w ≡ true) is first.0;
      after = subst (λ (w : Cell). is_after before w ≡ true) second.1 both.0;
      apart = subst (λ (w : Cell). has_cell starts w ≡ false) second.1 (not-true _ both.1);
    }

pub wall_at_ok : (grid : Ground) (starts : List Cell) (before : Option Cell) (n : ℕ) (line : List ℕ) (c : Cell) → wall_at grid starts before n line ≡ Ok c → IsWallRead grid starts before (two_of (codes "wall") line) c
unfolding wall_at
wall_at_ok grid starts before n line c e = wall_said_ok grid starts before n (two_of (codes "wall") line) c e
