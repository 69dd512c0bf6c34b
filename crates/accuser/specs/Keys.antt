-- Keys: frames as keys in an order.
use Rattle.std.specs.Prelude.{ℕ, None, Some, option_map}
use Rattle.std.specs.declared.cmp.Ordering.{Ordering}
use Rattle.std.specs.Ordering.{nat_cmp, ordering_then}
use Rattle.std.specs.Option.{option_cmp}
use Rattle.std.specs.Cmp.Lexicographic.{slice_cmp}
use Rattle.definitions.specs.declared.world.Cell.{Cell}
use Rattle.definitions.specs.declared.frames.TurnFrame.{TurnFrame}
use Rattle.definitions.specs.declared.frames.TurnFrame.TheVariants.{Commit, Reveal}
use Rattle.accuser.specs.declared.frame_key.FrameKey.{FrameKey}

-- the cell's column and its row
abbrev pub cell_pair : Cell → ℕ × ℕ
cell_pair c = (c.x, c.y)

-- the frame's key
abbrev pub key_of : TurnFrame → FrameKey
key_of (Commit p t d) = record { player = p; turn = t; bytes = d.bytes; to = None; strike = None }
key_of (Reveal p t m n) = record { player = p; turn = t; bytes = n.bytes; to = Some (cell_pair m.to); strike = option_map cell_pair m.strike }

-- the order of two pairs of numbers
abbrev pub pair_cmp : ℕ × ℕ → ℕ × ℕ → Ordering
pair_cmp x y = ordering_then (nat_cmp x.0 y.0) (nat_cmp x.1 y.1)

-- the order of two keys
abbrev pub key_cmp : FrameKey → FrameKey → Ordering
key_cmp k l =
    ordering_then (nat_cmp k.player l.player) (ordering_then (nat_cmp k.turn l.turn) (ordering_then (slice_cmp nat_cmp k.bytes l.bytes)
    (ordering_then (option_cmp pair_cmp k.to l.to) (option_cmp pair_cmp k.strike l.strike))))
