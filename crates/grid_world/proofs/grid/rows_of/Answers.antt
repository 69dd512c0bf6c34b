use Rattle.std.proofs.Common.{ℕ, ◌*◌, ◌^◌, ◌%◌, get_or, refl, ap}
use Rattle.std.specs.Prelude.{bit_or}
use Rattle.grid_world.proofs.Rows.{rows_more, inside_at}
use Rattle.grid_world.proofs.grid.rows_of.Goals as goal

pub loop-wall-preserved : goal.loop-wall-preserved
loop-wall-preserved c =
    rows_more c.args.width c.args.height c.args.walls.now c.loop-wall.wall-index (record { x = 0; y = 0 }) _ c.loop-wall.rows.items _ _ c.index_mut.result.now c.loop-wall-test.true refl
    (inside_at (record { width = c.args.width; height = c.args.height; walls = c.args.walls.now }) c.args.walls.now c.loop-wall.wall-index (record { x = 0; y = 0 }) c.requires c.loop-wall-test.true)
    (rw (c.from-in-loop-wall.ensures, c.words_of_row-words.ensures, c.from-in-loop-wall-2.ensures) refl) (ap (λ (w : ℕ). bit_or w (1 * 2 ^ ((get_or c.args.walls.now c.loop-wall.wall-index (record { x = 0; y = 0 })).x % 64) % 2 ^ 64)) c.index_mut.ensures.value) c.loop-wall.invariant
